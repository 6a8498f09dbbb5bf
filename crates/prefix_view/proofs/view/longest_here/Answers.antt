use Rattle.std.proofs.Common.{◌-◌, ◌∙◌, bit_and, ap, sym, drop, take}
use Rattle.std.specs.Int.{bit_at}
use lib.Count.{count_leading_zeros}
use Rattle.prefix_model.proofs.Bitmaps.NodeBits.{and_set}
use Rattle.prefix_view.proofs.NodeViews.{place_of}
use Rattle.prefix_view.proofs.KeyParts.{key_here, depth_within}
use Rattle.prefix_view.proofs.Longest.{highest, none_here, some_here}
use Rattle.prefix_view.proofs.view.longest_here.Goals as goal

pub data_lpm_mask-requires-clause-order : goal.data_lpm_mask-requires-clause-order
data_lpm_mask-requires-clause-order g c = depth_within (g.V.TrieView.seen c.args.view) (g.V.P.R.Bits.bits c.args.key) c.args.len c.depth.result c.depth.ensures c.requires.extends

pub view_at_bit-requires : goal.view_at_bit-requires
view_at_bit-requires g c =
    let b = 31 - count_leading_zeros 32 (bit_and c.data_bitmap.result c.data_lpm_mask.result) in
    let top = highest c.data_bitmap.result c.data_lpm_mask.result c.data_bitmap.type_inv c.if-matches-eq0.false in
    ap (λ n. bit_at n b) (sym c.data_bitmap.ensures) ∙ (and_set c.data_bitmap.result c.data_lpm_mask.result b top.set).0

pub returns-then-matches-eq0 : goal.returns-then-matches-eq0
returns-then-matches-eq0 g c =
    let v = g.V.TrieView.seen c.args.view in
    let k = take c.args.len (g.V.P.R.Bits.bits c.args.key) in
    none_here v k _ (g.met.V.TrieView.place_law c.args.view) (drop c.depth.result k) (key_here v k c.depth.result c.depth.ensures c.requires.extends) c.data_lpm_mask.result c.data_lpm_mask.ensures
    (ap (λ n. bit_and n c.data_lpm_mask.result) (sym c.data_bitmap.ensures) ∙ c.if-matches-eq0.true)

pub returns-else-matches-eq0 : goal.returns-else-matches-eq0
returns-else-matches-eq0 g c =
    let v = g.V.TrieView.seen c.args.view in
    let k = take c.args.len (g.V.P.R.Bits.bits c.args.key) in
    let b = 31 - count_leading_zeros 32 (bit_and c.data_bitmap.result c.data_lpm_mask.result) in
    let top = highest c.data_bitmap.result c.data_lpm_mask.result c.data_bitmap.type_inv c.if-matches-eq0.false in
    let at = place_of v b (ap (λ n. bit_at n b) (sym c.data_bitmap.ensures) ∙ (and_set c.data_bitmap.result c.data_lpm_mask.result b top.set).0) in
    some_here v k _ (g.met.V.TrieView.place_law c.args.view) (drop c.depth.result k) (key_here v k c.depth.result c.depth.ensures c.requires.extends) c.data_lpm_mask.result c.data_lpm_mask.ensures
    b at.0 (g.V.TrieView.seen c.view_at_bit.result) at.1 (ap (λ n. bit_at (bit_and n c.data_lpm_mask.result) b) (sym c.data_bitmap.ensures) ∙ top.set)
    (λ i l. ap (λ n. bit_at (bit_and n c.data_lpm_mask.result) i) (sym c.data_bitmap.ensures) ∙ top.none i l) (c.view_at_bit.ensures at.0 at.1)
