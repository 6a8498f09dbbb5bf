use Rattle.prefix_app.proofs.DumpLaws.{dumps_built}
use Rattle.prefix_app.proofs.laws.dumps_are_built.Goals as goal

pub returns : goal.returns
returns c = dumps_built c.dumps_are_read.ensures
