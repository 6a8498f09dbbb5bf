use Rattle.std.proofs.Common.{◌≡◌, ◌∙◌, ap, sym, arith, length, take}
use Rattle.prefix_model.proofs.Fronts.{take_front}
use Rattle.prefix_view.proofs.equality.same_place.Goals as goal

pub returns-then-prefix_len-len : goal.returns-then-prefix_len-len
returns-then-prefix_len-len g c = (λ t. cc, λ e. let l = ap length e in absurd (omega (arith, l)))

pub same_fronts-requires-clause-first : goal.same_fronts-requires-clause-first
same_fronts-requires-clause-first g c = let w = (g.met.L.TrieView.place_law c.args.left).within in omega (arith, w)

pub same_fronts-requires-clause-second : goal.same_fronts-requires-clause-second
same_fronts-requires-clause-second g c = let w = (g.met.R.TrieView.place_law c.args.right).within in omega (arith, w)

pub returns : goal.returns
returns g c =
    let p = (g.L.TrieView.seen c.args.left).place in
    let q = (g.R.TrieView.seen c.args.right).place in
    let l = c.prefix_len-len.ensures in
    let same = c.if-prefix_len-len.false in
    let other = c.prefix_len.ensures in
    let r : c.prefix_len-len.result ≡ length q = omega (arith, same, other) in
    let kp : take c.prefix_len-len.result (g.L.P.R.Bits.bits c.key.result) ≡ p = (λ i. take (l i) (c.key.ensures i)) ∙ take_front p _ in
    let kq : take c.prefix_len-len.result (g.R.P.R.Bits.bits c.key-2.result) ≡ q = (λ i. take (r i) (c.key-2.ensures i)) ∙ take_front q _ in
    (λ t. sym kp ∙ c.same_fronts.ensures.0 t ∙ kq, λ e. c.same_fronts.ensures.1 (kp ∙ e ∙ sym kq))
