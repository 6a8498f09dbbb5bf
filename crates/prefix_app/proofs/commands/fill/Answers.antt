use Rattle.prefix_app.proofs.OutcomeLaws.{writes_same}
use Rattle.prefix_app.proofs.commands.fill.Goals as goal

pub returns : goal.returns
returns c = writes_same c.write.result c.in_ok-first.ensures c.in_ok-second.ensures c.write.ensures
