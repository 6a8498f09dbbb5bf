use Rattle.std.proofs.Common.{◌-◌, ◌++◌, false, take, replicate, sym, ap, ◌∙◌, arith}
use Rattle.std.specs.FinMap as map
use Rattle.prefix_model.proofs.Bitmaps.PlaceBits.{set_from}
use Rattle.prefix_model.proofs.Bitmaps.NodeBits.{place_limit}
use Rattle.prefix_map.proofs.Descents.{place_of, place_fits, there, bit_moved, whole_found}
use Rattle.prefix_model.proofs.KeyPieces.{taken_length}
use Rattle.prefix_map.proofs.descent.found_at.Goals as goal

pub reconstruct_repr-place-requires-clause-slot : goal.reconstruct_repr-place-requires-clause-slot
reconstruct_repr-place-requires-clause-slot g c = let k = place_of c.args.table.now (take c.args.depth (g.R.Bits.bits c.args.key)) c.args.bit c.requires.set in place_limit c.args.bit k.0 k.1

pub reconstruct_repr-place-requires-clause-within : goal.reconstruct_repr-place-requires-clause-within
reconstruct_repr-place-requires-clause-within g c = λ s is.
    let bits = g.R.Bits.bits c.args.key in
    let size = taken_length bits c.args.depth g.R.Bits.WIDTH (g.met.R.Bits.length_law c.args.key) c.requires.depth in
    let l = place_fits c.args.table.now (take c.args.depth bits) g.R.Bits.WIDTH c.requires.fits c.args.bit c.requires.set s is in
    omega (arith, size, l)

pub value-requires-clause-set : goal.value-requires-clause-set
value-requires-clause-set g c = set_from _ c.args.bit (bit_moved c.args.table.now (take c.args.depth (g.R.Bits.bits c.args.key)) c.args.at c.requires.named c.args.bit c.requires.set)

pub returns-clause-key : goal.returns-clause-key
returns-clause-key g c = λ s is. ap (λ n. take n (g.R.Bits.bits c.reconstruct_repr-place.result.0)) c.from.ensures ∙ c.reconstruct_repr-place.ensures.key s is

pub returns-clause-stored : goal.returns-clause-stored
returns-clause-stored g c =
    let view = c.args.table.now in
    let p = take c.args.depth (g.R.Bits.bits c.args.key) in
    let k = place_of view p c.args.bit c.requires.set in
    ap (map.get view.entries) (returns-clause-key g c k.0 k.1 ∙ ap (λ x. x ++ k.0) (sym (there view p c.args.at c.requires.named))) ∙ c.value.ensures k.0 k.1

pub returns-clause-whole : goal.returns-clause-whole
returns-clause-whole g c =
    let view = c.args.table.now in
    let bits = g.R.Bits.bits c.args.key in
    let p = take c.args.depth bits in
    let k = place_of view p c.args.bit c.requires.set in
    let size = taken_length bits c.args.depth g.R.Bits.WIDTH (g.met.R.Bits.length_law c.args.key) c.requires.depth in
    let l = place_fits view p g.R.Bits.WIDTH c.requires.fits c.args.bit c.requires.set k.0 k.1 in
    let long = c.reconstruct_repr-place.ensures.length k.0 k.1 in
    let is = c.reconstruct_repr-place.ensures.key k.0 k.1 in
    let parts = whole_found (g.R.Bits.bits c.reconstruct_repr-place.result.0) p k.0 g.R.Bits.WIDTH c.args.depth c.from.result size l (c.from.ensures ∙ long)
    (c.reconstruct_repr-place.ensures.bits ∙ (λ j. is j ++ replicate (g.R.Bits.WIDTH - (sym c.from.ensures) j) false)) in
    record { fits = parts.0; zeros = parts.1 }
