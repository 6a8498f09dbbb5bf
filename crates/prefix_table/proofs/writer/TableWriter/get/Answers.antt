use Rattle.std.proofs.Common.{ap, sym, ◌∙◌}
use Rattle.std.specs.FinMap as map_of
use Rattle.prefix_model.specs.TableViews.{TableView, key_of}
use Rattle.prefix_table.proofs.TrieViews.{get_entry}
use Rattle.prefix_table.proofs.writer.TableWriter.get.Goals as goal

pub returns : goal.returns
returns g c =
    c.get_at.ensures
    ∙ sym (ap (λ (v : TableView g.row.T.Denot). map_of.get v.entries (key_of (g.R.Bits.bits c.args.key) c.args.len)) (sym c.self.view_is)
    ∙ get_entry c.self.inside.trie c.self.invariant.0 (key_of (g.R.Bits.bits c.args.key) c.args.len))
