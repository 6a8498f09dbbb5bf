use Rattle.std.proofs.Common.{◌≡◌, ◌-◌, ◌*◌, ◌<◌, ◌^◌, ℕ, ap, sym, ◌∙◌, subst, arith}
use Rattle.prefix_model.proofs.KeyNumbers.{low_bits-zero}
use Rattle.prefix_view.proofs.LiveKeys.{padded_number, shifted, shifted_small}
use Rattle.prefix_view.proofs.trie_ref.key_of_number.Goals as goal

pub returns-then-len-eq0 : goal.returns-then-len-eq0
returns-then-len-eq0 g c =
    let small = c.requires.small in
    let none = c.if-len-eq0.true in
    let n : c.args.n ≡ 0 = let s : c.args.n < 2 ^ 0 = subst (λ l. c.args.n < 2 ^ l) none small in omega (arith, s) in
    c.zeros.ensures
    ∙ sym (low_bits-zero g.R.Bits.WIDTH)
    ∙ padded_number g.R.Bits.WIDTH c.args.len c.args.n 0 c.requires.within (let z : 0 ≡ 0 * 2 ^ (g.R.Bits.WIDTH - c.args.len) = omega arith in z ∙ ap (λ m. m * 2 ^ (g.R.Bits.WIDTH - c.args.len)) (sym n))

pub from_number-requires : goal.from_number-requires
from_number-requires g c =
    let e = shifted g.R.Bits.WIDTH c.WIDTH.result c.args.len c.args.n c.WIDTH.ensures c.requires.within c.requires.small g.met.R.Bits.greatest_width_law in
    subst (λ (m : ℕ). m < 2 ^ g.R.Bits.WIDTH) (sym e) (shifted_small g.R.Bits.WIDTH c.args.len c.args.n c.requires.within c.requires.small)

pub returns : goal.returns
returns g c =
    let e = shifted g.R.Bits.WIDTH c.WIDTH.result c.args.len c.args.n c.WIDTH.ensures c.requires.within c.requires.small g.met.R.Bits.greatest_width_law in
    c.from_number.ensures ∙ padded_number g.R.Bits.WIDTH c.args.len c.args.n _ c.requires.within e
