use Rattle.std.proofs.Common.{take, arith, length-take}
use Rattle.std.proofs.Math.Logic.{∥∥₁_map}
use Rattle.prefix_model.specs.Keys.{low_bits}
use Rattle.prefix_model.proofs.KeyNumbers.{length-low_bits}
use Rattle.prefix_model.proofs.Fronts.{front_length}
use Rattle.prefix_view.proofs.LiveReads.{live_small, moved_ref}
use Rattle.prefix_model.proofs.Viewing.ViewBits.{known_front}
use Rattle.prefix_view.proofs.trie_ref.TrieRefTrieView.reposition.Goals as goal

pub longer_number-self-requires-clause-order : goal.longer_number-self-requires-clause-order
longer_number-self-requires-clause-order g c =
    let bits = g.P.R.Bits.bits c.args.key in
    let f = front_length (low_bits c.args.self.now.prefix_len c.args.self.now.place) (take c.args.prefix_len bits) c.requires.extends in
    let l = length-low_bits c.args.self.now.prefix_len c.args.self.now.place in
    let t = length-take c.args.prefix_len bits in
    omega (arith, f, l, t)

pub longer_number-self-requires-clause-small : goal.longer_number-self-requires-clause-small
longer_number-self-requires-clause-small g c = live_small _ c.args.self.now.table.now c.args.self.now.at c.args.self.now.place c.args.self.now.prefix_len c.args.self.now.placed

pub longer_number-self-requires-clause-known : goal.longer_number-self-requires-clause-known
longer_number-self-requires-clause-known g c = known_front c.args.self.now.place c.args.self.now.prefix_len c.args.prefix_len (g.P.R.Bits.bits c.args.key) c.requires.extends

pub invariant_of-self : goal.invariant_of-self
invariant_of-self g c =
    record {
      placed = ∥∥₁_map c.args.self.now.placed (moved_ref _ c.args.self.now.table.now c.args.self.now.at c.args.self.now.place c.args.self.now.prefix_len (g.P.R.Bits.bits c.args.key) c.longer_number-self.result c.args.prefix_len
          c.requires.extends c.requires.same_node c.requires.within c.longer_number-self.ensures.bits c.longer_number-self.ensures.small);
    }
