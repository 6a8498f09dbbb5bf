use Rattle.prefix_model.proofs.SetAggregate.{unit_total, unit_exact, least_is_set_aggregate}
use Rattle.prefix_aggregate.proofs.AnswerLaws.{if_ok}
use Rattle.prefix_aggregate.proofs.aggregate_set.Goals as goal

pub returns-clause-members : goal.returns-clause-members
returns-clause-members g c = if_ok c.aggregate_map.result c.aggregate_map.ensures.least (λ new e. (least_is_set_aggregate unit_total unit_exact g.R.Bits.WIDTH c.args.table.now.entries new.entries).1 e)
