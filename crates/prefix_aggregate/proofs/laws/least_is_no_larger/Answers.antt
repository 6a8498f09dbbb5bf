use Rattle.prefix_model.proofs.Fewest.Tables.{is_no_larger, keeps_width}
use Rattle.prefix_aggregate.proofs.laws.least_is_no_larger.Goals as goal

pub returns-clause-count : goal.returns-clause-count
returns-clause-count g c = is_no_larger g.met.V.Ord.total c.requires

pub returns-clause-width : goal.returns-clause-width
returns-clause-width g c = keeps_width g.met.V.Ord.total c.requires
