use Rattle.prefix_app.proofs.OutcomeLaws.{has_room}
use Rattle.prefix_app.proofs.commands.second_of.Goals as goal

pub returns-in-Ok-clause-few : goal.returns-in-Ok-clause-few
returns-in-Ok-clause-few c = has_room c.in-Ok.second.entries c.args.archive.t2.table.entries c.in-Ok.ensures.entries c.args.archive.t2.table.spelled.entries_fit
