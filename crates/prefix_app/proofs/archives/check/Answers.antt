use Rattle.std.proofs.Common.{refl}
use Rattle.prefix_text.specs.declared.command.Command.TheVariants.{Check}
use Rattle.prefix_app.specs.declared.ending.Ending.TheVariants.{Archive}
use Rattle.prefix_app.proofs.OutcomeLaws.{opened_makes, refused_ends}
use Rattle.prefix_app.proofs.archives.check.Goals as goal

pub returns-in-Ok : goal.returns-in-Ok
returns-in-Ok c = opened_makes Check c.args.bytes.now c.in-Ok.archive.t1.table.entries c.in-Ok.archive.t2.table.entries c.check.result c.in-Ok.ensures c.check.ensures

pub returns-in-Err : goal.returns-in-Err
returns-in-Err c = refused_ends Check c.args.bytes.now c.in-Err.error (Archive c.in-Err.error) c.in-Err.ensures refl
