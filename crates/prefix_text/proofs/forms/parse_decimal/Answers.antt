use Rattle.std.proofs.Common.{rules, ◌≡◌, ◌+◌, ◌*◌, drop, arith}
use Rattle.std.proofs.lemmas.Grind.{common_steps}
use Rattle.prefix_text.specs.Forms.{read_digits}
use Rattle.prefix_text.proofs.FormLaws.{is_refused}
use Rattle.prefix_text.proofs.forms.parse_decimal.Goals as goal

pub returns-then-number-from-clause-exact : goal.returns-then-number-from-clause-exact
returns-then-number-from-clause-exact c =
    let more : read_digits 10 (c.loop-byte.number * 10 + c.from.result) (drop (c.loop-byte.byte-index + 1) c.args.text.now) ≡ read_digits 10 0 c.args.text.now = grind (arith, common_steps) in
    is_refused c.args.most (c.loop-byte.number * 10 + c.from.result) (drop (c.loop-byte.byte-index + 1) c.args.text.now) c.args.text.now more (search rules)
