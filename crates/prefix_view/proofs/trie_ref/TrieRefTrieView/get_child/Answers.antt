use Rattle.std.proofs.Common.{◌≡◌, ◌++◌, false, ap, refl, arith}
use Rattle.std.specs.FinMap as map
use Rattle.prefix_model.specs.Keys.{low_bits}
use Rattle.prefix_model.proofs.KeyNumbers.{length-low_bits}
use Rattle.prefix_model.specs.Views.{moved}
use Rattle.prefix_view.specs.LiveViews.{seen_at}
use Rattle.prefix_view.specs.LiveLaws.{live_within}
use Rattle.prefix_model.proofs.Nodes.{node_above, node_near}
use Rattle.prefix_view.proofs.LiveKeys.{child_place}
use Rattle.prefix_view.proofs.LiveReads.{live_is_named, live_position, child_fits, child_ref}
use Rattle.prefix_model.proofs.Viewing.ViewBits.{child_limit, child_kept}
use Rattle.prefix_view.proofs.trie_ref.TrieRefTrieView.get_child.Goals as goal

pub overflow_sub-node : goal.overflow_sub-node
overflow_sub-node g c = let a = node_above (low_bits c.args.self.now.prefix_len c.args.self.now.place) in let l = length-low_bits c.args.self.now.prefix_len c.args.self.now.place in omega (arith, a, l, c.depth.ensures)

pub overflow_shr-node : goal.overflow_shr-node
overflow_shr-node g c = let a = node_near (low_bits c.args.self.now.prefix_len c.args.self.now.place) in let l = length-low_bits c.args.self.now.prefix_len c.args.self.now.place in omega (arith, a, l, c.depth.ensures)

pub child-requires-clause-named : goal.child-requires-clause-named
child-requires-clause-named g c = live_is_named _ c.args.self.now.table.now c.args.self.now.at c.args.self.now.place c.args.self.now.prefix_len c.args.self.now.placed c.of_number.result c.of_number.ensures

pub child-requires-clause-slot : goal.child-requires-clause-slot
child-requires-clause-slot g c = child_limit (seen_at c.args.self.now.table.now c.args.self.now.place c.args.self.now.prefix_len) c.args.child_bit c.requires

pub overflow_mul-result : goal.overflow_mul-result
overflow_mul-result g c =
    let f = child_fits _ c.args.self.now.table.now c.args.self.now.at c.args.self.now.place c.args.self.now.prefix_len c.args.self.now.placed c.depth.result c.args.child_bit c.args.child_bit c.depth.ensures refl c.requires g.met.P.R.Bits.greatest_width_law in
    omega (arith, f)

pub overflow_add-result : goal.overflow_add-result
overflow_add-result g c = let f = child_fits _ c.args.self.now.table.now c.args.self.now.at c.args.self.now.place c.args.self.now.prefix_len c.args.self.now.placed c.depth.result c.from.result c.args.child_bit c.depth.ensures c.from.ensures c.requires g.met.P.R.Bits.greatest_width_law in omega (arith, f)

pub overflow_add-result-in-Some : goal.overflow_add-result-in-Some
overflow_add-result-in-Some g c = let a = node_above (low_bits c.args.self.now.prefix_len c.args.self.now.place) in let l = length-low_bits c.args.self.now.prefix_len c.args.self.now.place in let w = g.met.P.R.Bits.greatest_width_law in let i = live_within _ c.args.self.now.table.now c.args.self.now.at c.args.self.now.place c.args.self.now.prefix_len c.args.self.now.placed in omega (arith, a, l, w, i, c.depth-in-Some.ensures)

pub unreachable-requires : goal.unreachable-requires
unreachable-requires g c =
    let kept = child_kept (seen_at c.args.self.now.table.now c.args.self.now.place c.args.self.now.prefix_len) c.args.child_bit c.requires in
    let gone : map.contains_key c.args.self.now.table.now.kept (_ ++ low_bits 5 c.args.child_bit) ≡ false = c.in-None.ensures in
    let here = ap (λ p. map.contains_key c.args.self.now.table.now.kept (p ++ low_bits 5 c.args.child_bit)) (live_position _ c.args.self.now.table.now c.args.self.now.at c.args.self.now.place c.args.self.now.prefix_len c.args.self.now.placed c.of_number.result c.of_number.ensures) in
    cc (kept, gone, here)

pub invariant_of-result : goal.invariant_of-result
invariant_of-result g c =
    record { placed = ∣ child_ref _ c.args.self.now.table.now c.args.self.now.at c.args.self.now.place c.args.self.now.prefix_len c.args.self.now.placed c.of_number.result c.depth.result c.depth-in-Some.result c.from.result c.args.child_bit c.in-Some.child c.number.result c.of_number.ensures c.number.ensures c.depth.ensures c.depth-in-Some.ensures c.from.ensures c.requires c.in-Some.ensures ∣₁ }

pub returns : goal.returns
returns g c =
    ap (moved (seen_at c.args.self.now.table.now c.args.self.now.place c.args.self.now.prefix_len)) (child_place c.args.self.now.prefix_len c.args.self.now.place c.depth.result c.depth-in-Some.result c.from.result c.args.child_bit _ c.depth.ensures c.depth-in-Some.ensures c.from.ensures (child_limit (seen_at c.args.self.now.table.now c.args.self.now.place c.args.self.now.prefix_len) c.args.child_bit c.requires) refl)
