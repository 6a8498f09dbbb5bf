use Rattle.prefix_model.proofs.Fewest.Keys.{tells_coverage}
use Rattle.prefix_model.proofs.least.least_tells_coverage.Goals as goal

pub returns : goal.returns
returns g c = tells_coverage (g.met.V.Ord.total) c.requires
