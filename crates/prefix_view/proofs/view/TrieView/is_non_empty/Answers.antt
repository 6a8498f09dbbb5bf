use Rattle.std.proofs.Common.{sym, ◌∙◌}
use Rattle.prefix_view.proofs.Shown.{shown_then, shown_else}
use Rattle.prefix_view.proofs.view.TrieView.is_non_empty.Goals as goal

pub returns-then-data_bitmap-ne0 : goal.returns-then-data_bitmap-ne0
returns-then-data_bitmap-ne0 g c =
    shown_then _ (g.Self.TrieView.seen c.args.self.now) (g.met.Self.TrieView.place_law c.args.self.now) _ c.data_bitmap.ensures c.if-data_bitmap-ne0.true

pub returns-else-data_bitmap-ne0 : goal.returns-else-data_bitmap-ne0
returns-else-data_bitmap-ne0 g c =
    shown_else _ (g.Self.TrieView.seen c.args.self.now) (g.met.Self.TrieView.place_law c.args.self.now) (sym c.data_bitmap.ensures ∙ c.if-data_bitmap-ne0.false) _ c.child_bitmap.ensures
