use Rattle.prefix_aggregate.proofs.PartLaws.{kept_more}
use Rattle.prefix_aggregate.proofs.parts.add_value.Goals as goal

pub returns-clause-kept : goal.returns-clause-kept
returns-clause-kept g c = kept_more _ _ _ c.in_ok-push.ensures.items
