use Rattle.std.proofs.Common.{rules, arith, ◌<◌, ◌==◌, length}
use Rattle.std.proofs.lemmas.Grind.{common_steps}
use Rattle.prefix_text.proofs.LineLaws.{first_line_of, only_line, place_is}
use Rattle.prefix_text.proofs.lines.split_line.Goals as goal

pub returns-in-Some : goal.returns-in-Some
returns-in-Some c =
    let h = place_is (λ b. b == 10) c.args.text.now c.in-Some.end (search rules) in
    (first_line_of c.args.text.now c.in-Some.end (search rules), grind (arith, common_steps))

pub returns-in-None : goal.returns-in-None
returns-in-None c =
    let l : 0 < length c.args.text.now = search rules in
    (only_line c.args.text.now l (search rules), l)
