use Rattle.prefix_app.proofs.OutcomeLaws.{has_room}
use Rattle.prefix_app.proofs.commands.first_of.Goals as goal

pub returns-in-Ok-clause-few : goal.returns-in-Ok-clause-few
returns-in-Ok-clause-few c = has_room c.in-Ok.first.entries c.args.archive.t1.table.entries c.in-Ok.ensures.entries c.args.archive.t1.table.spelled.entries_fit
