use Rattle.std.proofs.Common.{◌∙◌}
use Rattle.prefix_aggregate.proofs.PartLaws.{kept_more, kept_then, two_added}
use Rattle.prefix_aggregate.proofs.parts.add_two.Goals as goal

pub returns-clause-kept : goal.returns-clause-kept
returns-clause-kept g c = kept_then _ _ _ (kept_more _ _ _ c.in_ok-push.ensures.items) (kept_more _ _ _ c.in_ok-push-2.ensures.items)

pub returns-clause-values : goal.returns-clause-values
returns-clause-values g c = two_added c.args.work.now.values.items c.push.new.self.items c.push-2.new.self.items c.args.low c.args.high c.len-start.result c.in_ok-push.ensures.items c.in_ok-push-2.ensures.items (c.len-start.ensures ∙ c.args.work.now.values.ok.0)
