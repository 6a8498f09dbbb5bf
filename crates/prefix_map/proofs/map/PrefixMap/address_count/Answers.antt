use Rattle.std.proofs.Common.{subst}
use Rattle.prefix_model.specs.Tables.{answer}
use Rattle.prefix_model.specs.Counts.{Counts}
use Rattle.prefix_map.specs.MapViews.{MapView}
use Rattle.prefix_map.proofs.map.PrefixMap.address_count.Goals as goal

pub returns : goal.returns
returns g c = subst (λ (v : MapView g.row.T.Denot). Counts g.P.R.Number.value g.P.R.Bits.WIDTH (answer v.entries) c.address_count.result) c.self.view_is c.address_count.ensures
