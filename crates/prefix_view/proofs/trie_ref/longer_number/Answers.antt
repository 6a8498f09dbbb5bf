use Rattle.std.proofs.Common.{◌+◌, ◌*◌, ◌<◌, ◌^◌, ◌++◌, ◌∷◌, [], false, ap, sym, ◌∙◌, subst, arith}
use Rattle.prefix_model.specs.Keys.{low_bits}
use Rattle.prefix_model.proofs.KeyPlaces.{byte-digit}
use Rattle.prefix_model.proofs.Fronts.{take_next}
use Rattle.prefix_view.proofs.LiveKeys.{number_push, push_small, fits_word}
use Rattle.prefix_view.proofs.trie_ref.longer_number.Goals as goal

pub overflow_mul-number : goal.overflow_mul-number
overflow_mul-number g c =
    let wide = g.met.R.Bits.greatest_width_law in
    let within = c.requires.within in
    let f = fits_word c.loop-i.number c.loop-i.i c.args.to false c.loop-i.invariant.1 c.loop-i-test.true (omega (arith, wide, within)) in
    omega (arith, f)

pub overflow_add-number : goal.overflow_add-number
overflow_add-number g c =
    let wide = g.met.R.Bits.greatest_width_law in
    let within = c.requires.within in
    let d = c.from.ensures ∙ byte-digit c.bit.result in
    let f = fits_word c.loop-i.number c.loop-i.i c.args.to c.bit.result c.loop-i.invariant.1 c.loop-i-test.true (omega (arith, wide, within)) in
    omega (arith, f, d)

pub loop-i-preserved : goal.loop-i-preserved
loop-i-preserved g c =
    let bits = g.R.Bits.bits c.args.key in
    let i = c.loop-i.i in
    let n = c.loop-i.number in
    let d = c.from.ensures ∙ byte-digit c.bit.result in (
      ap (λ k. low_bits (i + 1) (2 * n + k)) d ∙ number_push n i c.bit.result ∙ ap (λ k. k ++ c.bit.result ∷ []) c.loop-i.invariant.0 ∙ sym (take_next bits i c.bit.result c.bit.ensures),
      subst (λ k. 2 * n + k < 2 ^ (i + 1)) (sym d) (push_small n i c.bit.result c.loop-i.invariant.1),
    )
