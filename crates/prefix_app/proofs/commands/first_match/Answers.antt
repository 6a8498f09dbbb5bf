use Rattle.std.proofs.Common.{rules, Some, ap, sym, ◌∙◌}
use Rattle.either.specs.declared.Either.TheVariants.{Left}
use Rattle.prefix_app.specs.Outcome.{key_in}
use Rattle.prefix_app.proofs.LongestLaws.{found_line, none_line, prefix_is}
use Rattle.prefix_app.proofs.commands.first_match.Goals as goal

pub returns-in-Ok : goal.returns-in-Ok
returns-in-Ok c =
    let e = c.in-Some.ensures in
    let q = key_in 32 c.in-Some.found in
    found_line 32 c.args.archive.t1.table.entries (key_in 32 c.args.prefix) q c.in-Ok.value c.in-Some.found Left e.longest (e.value ∙ ap Some (sym c.in-Ok.ensures)) (prefix_is 32 c.in-Some.found q (search rules) e.length e.bits)

pub returns-in-None : goal.returns-in-None
returns-in-None c = none_line 32 c.args.archive.t1.table.entries (key_in 32 c.args.prefix) Left c.in-None.ensures.longest
