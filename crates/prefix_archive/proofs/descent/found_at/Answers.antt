use Rattle.std.proofs.Common.{take, ap, ◌∙◌, arith}
use Rattle.std.specs.FinMap as map
use Rattle.std.proofs.lemmas.Bool.{eq-eqb}
use Rattle.std.specs.Int.{bit_at}
use Rattle.prefix_table.specs.Records.{node_record}
use Rattle.prefix_model.proofs.Bitmaps.NodeBits.{place_limit}
use Rattle.prefix_model.proofs.KeyPieces.{taken_length}
use Rattle.prefix_archive.proofs.Descents.{place_of, place_fits}
use Rattle.prefix_archive.proofs.descent.found_at.Goals as goal

pub reconstruct_repr-place-requires-clause-slot : goal.reconstruct_repr-place-requires-clause-slot
reconstruct_repr-place-requires-clause-slot g c =
    let k = place_of c.args.archive.now.table.entries (take c.args.depth (g.P.R.Bits.bits c.args.key)) (node_record c.args.node.now) c.requires.node c.args.bit c.requires.set in place_limit c.args.bit k.0 k.1

pub reconstruct_repr-place-requires-clause-within : goal.reconstruct_repr-place-requires-clause-within
reconstruct_repr-place-requires-clause-within g c = λ s is.
    let bits = g.P.R.Bits.bits c.args.key in
    let m = c.args.archive.now.table in
    let size = taken_length bits c.args.depth g.P.R.Bits.WIDTH (g.met.P.R.Bits.length_law c.args.key) c.requires.depth in
    let l = place_fits m.entries (take c.args.depth bits) (node_record c.args.node.now) c.requires.node g.P.R.Bits.WIDTH m.spelled.width c.args.bit c.requires.set s is in
    omega (arith, size, l)

pub value_of-requires-clause-node : goal.value_of-requires-clause-node
value_of-requires-clause-node g c = (take c.args.depth (g.P.R.Bits.bits c.args.key), c.requires.node)

pub value_of-requires-clause-place : goal.value_of-requires-clause-place
value_of-requires-clause-place g c =
    let k = place_of c.args.archive.now.table.entries (take c.args.depth (g.P.R.Bits.bits c.args.key)) (node_record c.args.node.now) c.requires.node c.args.bit c.requires.set in place_limit c.args.bit k.0 k.1

pub value_of-requires-clause-set : goal.value_of-requires-clause-set
value_of-requires-clause-set g c = eq-eqb (bit_at c.args.node.now.data_bits c.args.bit) 1 c.requires.set

pub returns-clause-key : goal.returns-clause-key
returns-clause-key g c = λ s is. ap (λ n. take n (g.P.R.Bits.bits c.reconstruct_repr-place.result.0)) c.from.ensures ∙ c.reconstruct_repr-place.ensures.key s is

pub returns-clause-stored : goal.returns-clause-stored
returns-clause-stored g c =
    let m = c.args.archive.now.table.entries in
    let p = take c.args.depth (g.P.R.Bits.bits c.args.key) in
    let k = place_of m p (node_record c.args.node.now) c.requires.node c.args.bit c.requires.set in
    ap (map.get m) (returns-clause-key g c k.0 k.1) ∙ c.value_of.ensures p k.0 c.requires.node k.1

pub returns-clause-fits : goal.returns-clause-fits
returns-clause-fits g c =
    let bits = g.P.R.Bits.bits c.args.key in
    let m = c.args.archive.now.table in
    let p = take c.args.depth bits in
    let k = place_of m.entries p (node_record c.args.node.now) c.requires.node c.args.bit c.requires.set in
    let size = taken_length bits c.args.depth g.P.R.Bits.WIDTH (g.met.P.R.Bits.length_law c.args.key) c.requires.depth in
    let l = place_fits m.entries p (node_record c.args.node.now) c.requires.node g.P.R.Bits.WIDTH m.spelled.width c.args.bit c.requires.set k.0 k.1 in
    let long = c.reconstruct_repr-place.ensures.length k.0 k.1 in
    let e = c.from.ensures in
    omega (arith, size, l, long, e)
