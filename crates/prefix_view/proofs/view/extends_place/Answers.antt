use Rattle.std.proofs.Common.{arith, take, length-take}
use Rattle.prefix_model.proofs.Fronts.{front_length}
use Rattle.prefix_view.proofs.Places.{extends_from, same_from}
use Rattle.prefix_view.proofs.view.extends_place.Goals as goal

pub returns-then-place_len-len : goal.returns-then-place_len-len
returns-then-place_len-len g c =
    let bits = g.V.P.R.Bits.bits c.args.key in
    let t = length-take c.args.len bits in
    (λ h. cc, λ f. let l = front_length (g.V.TrieView.seen c.args.view).place (take c.args.len bits) f in absurd (omega (arith, l, t)))

pub returns : goal.returns
returns g c =
    let p = (g.V.TrieView.seen c.args.view).place in
    let bits = g.V.P.R.Bits.bits c.args.key in (
      λ h. extends_from p _ _ bits _ c.args.len c.key.ensures c.prefix_len-place_len.ensures (omega arith) (c.same_front.ensures.0 h),
      λ f. c.same_front.ensures.1 (same_from p _ _ bits _ _ c.key.ensures c.prefix_len-place_len.ensures f),
    )
