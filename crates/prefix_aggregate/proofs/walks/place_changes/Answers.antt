use Rattle.std.proofs.Common.{sym, ap, ◌∙◌, refl}
use Rattle.std.specs.Option.{option_copied}
use Rattle.prefix_model.specs.Positions.{position_set}
use Rattle.prefix_model.proofs.Building.{position_set-empty}
use Rattle.prefix_model.specs.TableViews.{TableView, position_at}
use Rattle.prefix_model.proofs.TablePositions.{node_named}
use Rattle.prefix_aggregate.proofs.RootLaws.{masks_whole, lists_whole, least_of}
use Rattle.prefix_aggregate.proofs.walks.place_changes.Goals as goal

pub place_node-requires-clause-key : goal.place_node-requires-clause-key
place_node-requires-clause-key g c = sym (node_named c.args.table.now c.root.result _ c.root.ensures.named)

pub place_node-requires-clause-masks : goal.place_node-requires-clause-masks
place_node-requires-clause-masks g c =
    masks_whole g.T.Ord.cmp g.R.Bits.WIDTH c.args.table.now c.root.ensures.kept (option_copied c.args.default) (option_copied c.args.default) refl (position_at c.args.table.now c.root.result) (node_named c.args.table.now c.root.result _ c.root.ensures.named) c.args.sets.now c.requires.sets

pub place_node-requires-clause-lists : goal.place_node-requires-clause-lists
place_node-requires-clause-lists g c =
    lists_whole g.T.Ord.cmp g.R.Bits.WIDTH c.args.table.now c.root.ensures.kept (option_copied c.args.default) (option_copied c.args.default) refl (position_at c.args.table.now c.root.result) (node_named c.args.table.now c.root.result _ c.root.ensures.named) c.args.sets.now c.requires.sets

pub returns-clause-least : goal.returns-clause-least
returns-clause-least g c =
    ap (λ (t : TableView g.row.T.Denot). t.entries) c.into_table.ensures
    ∙ least_of g.T.Ord.cmp g.R.Bits.WIDTH c.args.table.now c.root.ensures.kept (option_copied c.args.default) (option_copied c.args.default) refl (position_at c.args.table.now c.root.result) (node_named c.args.table.now c.root.result _ c.root.ensures.named) _ _ c.new-new.ensures.entries c.in_ok-place_node.ensures.entries

pub returns-clause-kept : goal.returns-clause-kept
returns-clause-kept g c =
    ap (λ (t : TableView g.row.T.Denot). t.kept) c.into_table.ensures
    ∙ c.in_ok-place_node.ensures.kept (c.new-new.ensures.kept ∙ position_set-empty _ ∙ ap position_set (sym c.new-new.ensures.entries))
    ∙ ap (λ (t : TableView g.row.T.Denot). position_set t.entries) (sym c.into_table.ensures)
