use Rattle.std.proofs.Common.{ap, ◌∙◌, arith}
use Rattle.std.specs.FinMap as map
use Rattle.prefix_model.specs.Keys.{low_bits}
use Rattle.prefix_model.specs.Positions.{data_bits}
use Rattle.prefix_model.proofs.KeyNumbers.{length-low_bits}
use Rattle.prefix_model.proofs.Nodes.{node_above, node_near}
use Rattle.prefix_model.proofs.Viewing.CoveredBits.{data_covered}
use Rattle.prefix_model.proofs.Viewing.ViewBits.{live_front}
use Rattle.prefix_archive.proofs.view.ArchivedTrieRefTrieView.data_bitmap.Goals as goal

pub data_cover_mask-mask-requires-clause-order : goal.data_cover_mask-mask-requires-clause-order
data_cover_mask-mask-requires-clause-order g c = let self = c.args.self.now in let a = node_above (low_bits self.prefix_len self.place) in let l = length-low_bits self.prefix_len self.place in omega (arith, a, l, c.depth.ensures)

pub data_cover_mask-mask-requires-clause-few : goal.data_cover_mask-mask-requires-clause-few
data_cover_mask-mask-requires-clause-few g c = let self = c.args.self.now in let a = node_near (low_bits self.prefix_len self.place) in let l = length-low_bits self.prefix_len self.place in omega (arith, a, l, c.depth.ensures)

pub returns : goal.returns
returns g c =
    let self = c.args.self.now in
    let m = self.at.map.table.entries in
    data_covered (low_bits self.prefix_len self.place) (map.get m) _ _ self.prefix_len _ _ c.depth.ensures (live_front _ _ self.place self.prefix_len c.key.ensures)
    (c.data_bits.ensures ∙ ap (data_bits (map.get m)) self.stands) c.data_cover_mask-mask.ensures
