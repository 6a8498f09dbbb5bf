use Rattle.std.proofs.Common.{sym, ap, ◌∙◌}
use Rattle.prefix_model.specs.Building.{insert_all}
use Rattle.prefix_model.specs.Positions.{position_set}
use Rattle.prefix_model.proofs.Building.{insert_all-entries, position_set-empty}
use Rattle.prefix_map.proofs.BuildLaws.{on_ok, copied, copied_kept}
use Rattle.prefix_map.proofs.map.PrefixMap.try_clone.Goals as goal

pub loop-prefix-init : goal.loop-prefix-init
loop-prefix-init g c = record {
  left = (λ i. insert_all (c.new-copy.ensures.entries i) (c.iter-entries.ensures i)) ∙ insert_all-entries c.args.self.now.entries;
  kept = c.new-copy.ensures.kept ∙ position_set-empty g.row.T.Denot ∙ ap position_set (sym c.new-copy.ensures.entries);
}

pub loop-prefix-preserved : goal.loop-prefix-preserved
loop-prefix-preserved g c =
    let key = g.P.PrefixKey.key c.in-Some.prefix in
    let stored = on_ok c.insert.result c.is_err.result c.is_err.ensures.value c.if-is_err.false c.insert.ensures.stored in
    let same = c.requires _ _ c.in_ok-value.ensures.cases in
    record {
      left = copied _ _ _ _ _ key c.in-Some.value.now c.in_ok-value.value c.loop-prefix.invariant.left c.in-Some.ensures.steps.0 stored same;
      kept = copied_kept _ _ key c.in_ok-value.value c.loop-prefix.invariant.kept stored;
    }
