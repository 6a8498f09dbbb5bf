use Rattle.prefix_app.proofs.OutcomeLaws.{tells_tables}
use Rattle.prefix_app.proofs.laws.outcomes_tell_tables.Goals as goal

pub returns : goal.returns
returns c = tells_tables
