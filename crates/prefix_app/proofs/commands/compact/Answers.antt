use Rattle.prefix_app.proofs.OutcomeLaws.{compact_gives, compact_ends}
use Rattle.prefix_app.proofs.commands.compact.Goals as goal

pub returns-in-Ok : goal.returns-in-Ok
returns-in-Ok c =
    let e = c.in-Ok.ensures in
    let made = compact_gives c.args.bytes.now c.in-Ok.output.items e.least e.fewest in
    record { made = made.0; given = made.1 }

pub returns-in-Err-clause-made : goal.returns-in-Err-clause-made
returns-in-Err-clause-made c =
    let e = c.in-Err.ensures in
    compact_ends c.args.bytes.now c.in-Err.error e.refused e.full e.values
