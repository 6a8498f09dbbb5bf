use Rattle.std.proofs.Common.{◌≡◌, ◌+◌, ap, sym, ◌∙◌, arith, length, take, drop, length-take}
use Rattle.std.specs.Int.{bit_at}
use Rattle.prefix_model.specs.Keys.{number}
use Rattle.prefix_model.specs.Views.{node, moved}
use Rattle.prefix_view.proofs.Bitmaps.{tested_bit}
use Rattle.prefix_model.proofs.Bitmaps.PlaceBits.{set_from}
use Rattle.prefix_view.proofs.Shown.{child_there, child_gone, child_is}
use Rattle.prefix_view.proofs.view.child_towards.Goals as goal

pub get_child-requires : goal.get_child-requires
get_child-requires g c =
    set_from _ _ (ap (λ n. bit_at n c.child_bit-bit.result) (sym c.child_bitmap.ensures) ∙ tested_bit c.child_bitmap.result c.child_bit-bit.result c.if-child_bitmap-bit-eq1.true)

pub returns-then-child_bitmap-bit-eq1 : goal.returns-then-child_bitmap-bit-eq1
returns-then-child_bitmap-bit-eq1 g c =
    let v = g.V.TrieView.seen c.args.view in
    let bits = g.V.P.R.Bits.bits c.args.key in
    let child = take (length (node v) + 5) bits in
    let l = length-take (length (node v) + 5) bits in
    let all = g.met.V.P.R.Bits.length_law c.args.key in
    let room = c.requires.room in
    let long : length child ≡ length (node v) + 5 = omega (arith, l, all, room) in
    let bit = c.child_bit-bit.ensures.number ∙ ap (λ n. number (drop c.depth.result (take (n + 5) bits))) c.depth.ensures in
    let at = g.met.V.TrieView.place_law c.args.view in (
      child_there _ v at child c.requires.extends long _ _ _ c.depth.ensures bit c.child_bitmap.ensures c.if-child_bitmap-bit-eq1.true,
      c.get_child.ensures ∙ ap (moved v) (child_is _ v at child c.requires.extends long _ _ c.depth.ensures bit),
    )

pub returns-else-child_bitmap-bit-eq1 : goal.returns-else-child_bitmap-bit-eq1
returns-else-child_bitmap-bit-eq1 g c =
    let v = g.V.TrieView.seen c.args.view in
    let bits = g.V.P.R.Bits.bits c.args.key in
    let child = take (length (node v) + 5) bits in
    let l = length-take (length (node v) + 5) bits in
    let all = g.met.V.P.R.Bits.length_law c.args.key in
    let room = c.requires.room in
    let long : length child ≡ length (node v) + 5 = omega (arith, l, all, room) in
    let bit = c.child_bit-bit.ensures.number ∙ ap (λ n. number (drop c.depth.result (take (n + 5) bits))) c.depth.ensures in
    child_gone _ v (g.met.V.TrieView.place_law c.args.view) child c.requires.extends long _ _ _ c.depth.ensures bit c.child_bitmap.ensures c.if-child_bitmap-bit-eq1.false
