use Rattle.std.proofs.Common.{◌∙◌, arith}
use Rattle.std.specs.FinMap as map
use Rattle.prefix_model.specs.Keys.{low_bits}
use Rattle.prefix_model.specs.Positions.{position_set}
use Rattle.prefix_model.proofs.KeyNumbers.{length-low_bits}
use Rattle.prefix_model.proofs.Nodes.{node_above, node_near}
use Rattle.prefix_model.proofs.Viewing.CoveredBits.{children_covered}
use Rattle.prefix_model.proofs.Viewing.ViewBits.{live_front}
use Rattle.prefix_archive.proofs.Views.{kept_children}
use Rattle.prefix_archive.proofs.view.ArchivedTrieRefTrieView.child_bitmap.Goals as goal

pub child_cover_mask-mask-requires-clause-order : goal.child_cover_mask-mask-requires-clause-order
child_cover_mask-mask-requires-clause-order g c = let self = c.args.self.now in let a = node_above (low_bits self.prefix_len self.place) in let l = length-low_bits self.prefix_len self.place in omega (arith, a, l, c.depth.ensures)

pub child_cover_mask-mask-requires-clause-few : goal.child_cover_mask-mask-requires-clause-few
child_cover_mask-mask-requires-clause-few g c = let self = c.args.self.now in let a = node_near (low_bits self.prefix_len self.place) in let l = length-low_bits self.prefix_len self.place in omega (arith, a, l, c.depth.ensures)

pub returns : goal.returns
returns g c =
    let self = c.args.self.now in
    let m = self.at.map.table.entries in
    children_covered (low_bits self.prefix_len self.place) (map.contains_key (position_set m)) _ _ self.prefix_len _ _ c.depth.ensures (live_front _ _ self.place self.prefix_len c.key.ensures)
    (c.child_bits.ensures ∙ kept_children m _ _ self.stands) c.child_cover_mask-mask.ensures
