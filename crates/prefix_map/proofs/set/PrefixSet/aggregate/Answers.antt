use Rattle.std.proofs.Common.{subst}
use Rattle.std.specs.Prelude.{OnOk}
use Rattle.prefix_model.specs.Aggregates.{IsSetAggregate}
use Rattle.prefix_map.specs.MapViews.{MapView}
use Rattle.prefix_map.proofs.set.PrefixSet.aggregate.Goals as goal

pub returns-clause-members : goal.returns-clause-members
returns-clause-members g c =
    subst (λ (v : MapView (Unit {0})). OnOk c.aggregate_members.result (IsSetAggregate g.P.R.Bits.WIDTH v.entries c.aggregate_members.new.self.entries)) c.self.view_is c.aggregate_members.ensures.members
