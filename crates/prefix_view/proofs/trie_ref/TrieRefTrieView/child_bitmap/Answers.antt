use Rattle.std.proofs.Common.{ap, ◌∙◌, arith}
use Rattle.std.specs.FinMap as map
use Rattle.prefix_model.specs.Keys.{low_bits}
use Rattle.prefix_model.specs.Positions.{child_bits}
use Rattle.prefix_model.proofs.KeyNumbers.{length-low_bits}
use Rattle.prefix_view.specs.LiveLaws.{live_within}
use Rattle.prefix_model.proofs.Nodes.{node_above, node_near}
use Rattle.prefix_model.proofs.Viewing.CoveredBits.{children_covered}
use Rattle.prefix_view.proofs.LiveReads.{live_is_named, live_position}
use Rattle.prefix_model.proofs.Viewing.ViewBits.{live_front}
use Rattle.prefix_view.proofs.trie_ref.TrieRefTrieView.child_bitmap.Goals as goal

pub child_cover_mask-mask-requires-clause-order : goal.child_cover_mask-mask-requires-clause-order
child_cover_mask-mask-requires-clause-order g c = let a = node_above (low_bits c.args.self.now.prefix_len c.args.self.now.place) in let l = length-low_bits c.args.self.now.prefix_len c.args.self.now.place in omega (arith, a, l, c.depth.ensures)

pub child_cover_mask-mask-requires-clause-few : goal.child_cover_mask-mask-requires-clause-few
child_cover_mask-mask-requires-clause-few g c = let a = node_near (low_bits c.args.self.now.prefix_len c.args.self.now.place) in let l = length-low_bits c.args.self.now.prefix_len c.args.self.now.place in omega (arith, a, l, c.depth.ensures)

pub child_cover_mask-mask-requires-clause-within : goal.child_cover_mask-mask-requires-clause-within
child_cover_mask-mask-requires-clause-within g c = live_within _ c.args.self.now.table.now c.args.self.now.at c.args.self.now.place c.args.self.now.prefix_len c.args.self.now.placed

pub node-requires : goal.node-requires
node-requires g c = live_is_named _ c.args.self.now.table.now c.args.self.now.at c.args.self.now.place c.args.self.now.prefix_len c.args.self.now.placed c.of_number.result c.of_number.ensures

pub returns : goal.returns
returns g c =
    children_covered (low_bits c.args.self.now.prefix_len c.args.self.now.place) (map.contains_key c.args.self.now.table.now.kept) _ _ c.args.self.now.prefix_len _ _ c.depth.ensures (live_front _ _ c.args.self.now.place c.args.self.now.prefix_len c.key.ensures)
    (c.node.ensures.children ∙ ap (child_bits (map.contains_key c.args.self.now.table.now.kept)) (live_position _ c.args.self.now.table.now c.args.self.now.at c.args.self.now.place c.args.self.now.prefix_len c.args.self.now.placed c.of_number.result c.of_number.ensures)) c.child_cover_mask-mask.ensures
