use Rattle.std.proofs.Common.{◌∙◌, refl}
use Rattle.prefix_model.proofs.Consistent.{consistent_of_set}
use Rattle.prefix_aggregate.proofs.AnswerLaws.{if_ok}
use Rattle.prefix_aggregate.proofs.aggregate_consistent_set.Goals as goal

pub returns-clause-consistent : goal.returns-clause-consistent
returns-clause-consistent g c = if_ok c.aggregate_consistent_map.result c.aggregate_consistent_map.ensures.consistent (λ new e. e ∙ consistent_of_set _ refl c.args.table.now.entries)
