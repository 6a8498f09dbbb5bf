use Rattle.std.proofs.Common.{take, arith, length-take}
use Rattle.prefix_model.specs.Keys.{low_bits}
use Rattle.prefix_model.proofs.KeyNumbers.{length-low_bits}
use Rattle.prefix_model.proofs.Fronts.{front_length}
use Rattle.prefix_model.proofs.Viewing.ViewBits.{known_front}
use Rattle.prefix_archive.proofs.Views.{longer_place}
use Rattle.prefix_archive.proofs.view.ArchivedTrieRefTrieView.reposition.Goals as goal

pub longer_number-self-requires-clause-order : goal.longer_number-self-requires-clause-order
longer_number-self-requires-clause-order g c =
    let self = c.args.self.now in
    let bits = g.P.R.Bits.bits c.args.key in
    let f = front_length (low_bits self.prefix_len self.place) (take c.args.prefix_len bits) c.requires.extends in
    let l = length-low_bits self.prefix_len self.place in
    let t = length-take c.args.prefix_len bits in
    omega (arith, f, l, t)

pub longer_number-self-requires-clause-known : goal.longer_number-self-requires-clause-known
longer_number-self-requires-clause-known g c = let self = c.args.self.now in known_front self.place self.prefix_len c.args.prefix_len (g.P.R.Bits.bits c.args.key) c.requires.extends

pub invariant_of-self : goal.invariant_of-self
invariant_of-self g c =
    let self = c.args.self.now in
    record {
      stands = longer_place self.at.depth self.at.path self.place self.prefix_len c.longer_number-self.result c.args.prefix_len (g.P.R.Bits.bits c.args.key) self.stands c.requires.extends c.requires.same_node c.longer_number-self.ensures.bits;
      small = c.longer_number-self.ensures.small;
      within = c.requires.within;
    }
