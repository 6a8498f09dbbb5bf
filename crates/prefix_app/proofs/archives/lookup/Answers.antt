use Rattle.std.proofs.Common.{refl}
use Rattle.prefix_text.specs.declared.command.Command.TheVariants.{Lookup}
use Rattle.prefix_app.specs.declared.ending.Ending.TheVariants.{Archive}
use Rattle.prefix_app.proofs.OutcomeLaws.{opened_makes, refused_ends}
use Rattle.prefix_app.proofs.archives.lookup.Goals as goal

pub returns-in-Ok : goal.returns-in-Ok
returns-in-Ok c = opened_makes (Lookup c.args.prefix) c.args.bytes.now c.in-Ok.archive.t1.table.entries c.in-Ok.archive.t2.table.entries c.lookup.result c.in-Ok.ensures c.lookup.ensures

pub returns-in-Err : goal.returns-in-Err
returns-in-Err c = refused_ends (Lookup c.args.prefix) c.args.bytes.now c.in-Err.error (Archive c.in-Err.error) c.in-Err.ensures refl
