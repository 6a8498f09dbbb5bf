use Rattle.std.proofs.Common.{ap, ◌∙◌, sym, lit≤}
use Rattle.std.specs.FinMap as map
use Rattle.prefix_model.specs.Keys.{key_cmp}
use Rattle.prefix_table.proofs.WayLaws.{way_new}
use Rattle.prefix_table.proofs.writer.TableWriter.new.Goals as goal

pub invariant_of-result : goal.invariant_of-result
invariant_of-result g c = (
  c.new_trie.ensures.trie,
  sym (ap map.len c.new_trie.ensures.entries ∙ map.len-empty key_cmp g.row.T.Denot),
  lit≤ tt,
  way_new _ _,
)
