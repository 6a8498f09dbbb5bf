use Rattle.prefix_text.proofs.LineLaws.{five_words}
use Rattle.prefix_text.proofs.lines.parse_entry.Goals as goal

pub returns-in-Some-clause-exact : goal.returns-in-Some-clause-exact
returns-in-Some-clause-exact c =
    five_words c.args.line.now c.in_ok-family.family.now c.in_ok-family.rest.now c.in_ok-address.address.now c.in_ok-address.rest.now c.in_ok-length.length.now c.in_ok-length.value.now c.in-Some.field-0.0.now c.in-Some.field-0.1.now
    c.in_ok-family.ensures c.in_ok-address.ensures c.in_ok-length.ensures c.in-Some.ensures
