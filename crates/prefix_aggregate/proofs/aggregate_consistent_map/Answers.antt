use Rattle.std.proofs.Common.{◌≡◌, ◌-◌, [], None, sym, ap, ◌∙◌, arith}
use Rattle.std.specs.FinMap as map
use Rattle.prefix_model.specs.Building.{insert_all}
use Rattle.prefix_model.specs.Positions.{position_set}
use Rattle.prefix_model.specs.Aggregates.{consistent_entries}
use Rattle.prefix_model.proofs.Building.{position_set-empty}
use Rattle.prefix_model.proofs.Consistent.{entries_build}
use Rattle.prefix_model.specs.TableViews.{TableView}
use Rattle.prefix_aggregate.specs.Lists.{at}
use Rattle.prefix_aggregate.proofs.PlacingLaws.{at_front}
use Rattle.prefix_aggregate.proofs.aggregate_consistent_map.Goals as goal

pub store_changed-requires : goal.store_changed-requires
store_changed-requires g c = record {
  clones = c.requires.clones;
  holds = c.root_place-root.ensures.holds;
  valid = c.root_place-root.ensures.place;
  place = c.root_place-root.ensures.root;
  len = omega arith;
  rest = c.keep.ensures;
}

pub returns-clause-consistent : goal.returns-clause-consistent
returns-clause-consistent g c =
    let m = c.args.table.now.entries in
    let n : g.R.Bits.WIDTH - 0 ≡ g.R.Bits.WIDTH = omega arith in
    ap (λ (t : TableView g.row.T.Denot). t.entries) c.into_table.ensures
    ∙ c.in_ok-store_changed.ensures.entries
    ∙ (λ i. insert_all (c.new-consistent.ensures.entries i) (at [] (consistent_entries g.T.PartialEq.eq (n i) (map.get m) None)))
    ∙ ap (insert_all map.empty) (at_front (consistent_entries g.T.PartialEq.eq g.R.Bits.WIDTH (map.get m) None))
    ∙ entries_build g.T.PartialEq.eq g.R.Bits.WIDTH m c.requires.width

pub returns-clause-kept : goal.returns-clause-kept
returns-clause-kept g c =
    ap (λ (t : TableView g.row.T.Denot). t.kept) c.into_table.ensures
    ∙ c.in_ok-store_changed.ensures.kept (c.new-consistent.ensures.kept ∙ position_set-empty _ ∙ ap position_set (sym c.new-consistent.ensures.entries))
    ∙ ap (λ (t : TableView g.row.T.Denot). position_set t.entries) (sym c.into_table.ensures)
