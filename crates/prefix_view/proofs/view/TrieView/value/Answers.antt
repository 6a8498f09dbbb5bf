use Rattle.std.proofs.Common.{ap, sym, ◌∙◌, arith}
use Rattle.std.specs.Int.{bit_at}
use Rattle.std.specs.Prelude.{Some}
use Rattle.prefix_view.proofs.Places.{inner_of_place}
use Rattle.prefix_view.proofs.Bitmaps.{tested_bit}
use Rattle.prefix_model.proofs.Bitmaps.PlaceBits.{set_from}
use Rattle.prefix_view.proofs.Shown.{value_clear, value_there}
use Rattle.prefix_view.proofs.view.TrieView.value.Goals as goal

pub data_bit-bit-requires : goal.data_bit-bit-requires
data_bit-bit-requires g c = let l = (g.met.Self.TrieView.place_law c.args.self).within in omega (arith, l, c.prefix_len.ensures)

pub get_data-requires : goal.get_data-requires
get_data-requires g c =
    set_from _ _ (ap (λ n. bit_at n c.data_bit-bit.result) (sym c.data_bitmap.ensures) ∙ tested_bit c.data_bitmap.result c.data_bit-bit.result c.if-data_bitmap-bit-eq1.true)

pub returns-then-data_bitmap-bit-eq1 : goal.returns-then-data_bitmap-bit-eq1
returns-then-data_bitmap-bit-eq1 g c =
    let v = g.Self.TrieView.seen c.args.self in
    value_there _ v (g.met.Self.TrieView.place_law c.args.self) _ _ (c.data_bit-bit.ensures.place ∙ ap Some (inner_of_place v.place _ _ _ c.key.ensures c.prefix_len.ensures)) c.get_data.ensures

pub returns-else-data_bitmap-bit-eq1 : goal.returns-else-data_bitmap-bit-eq1
returns-else-data_bitmap-bit-eq1 g c =
    let v = g.Self.TrieView.seen c.args.self in
    value_clear _ v (g.met.Self.TrieView.place_law c.args.self) _ _ c.data_bitmap.ensures (c.data_bit-bit.ensures.place ∙ ap Some (inner_of_place v.place _ _ _ c.key.ensures c.prefix_len.ensures)) c.if-data_bitmap-bit-eq1.false
