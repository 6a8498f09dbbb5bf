use Rattle.std.proofs.Common.{rules, ap, ◌++◌}
use Rattle.either.specs.declared.Either.TheVariants.{Right}
use Rattle.prefix_text.specs.Texts.{dump_text}
use Rattle.prefix_app.specs.Outcome.{second_line, second_lines, key_in, prefix_at}
use Rattle.prefix_app.proofs.LongestLaws.{prefix_is}
use Rattle.prefix_app.proofs.QuestionLaws.{all_pushed, entry_same, pushed}
use Rattle.prefix_app.proofs.questions.push_second.Goals as goal

pub loop-prefix-init : goal.loop-prefix-init
loop-prefix-init c = record { rest = ap (λ es. c.args.text.now.items ++ dump_text (second_lines es)) c.iter-left.ensures }

pub loop-prefix-preserved : goal.loop-prefix-preserved
loop-prefix-preserved c =
    let e = c.in-Some.ensures.steps in
    let k = key_in 128 c.in-Some.prefix in
    let same = entry_same Right c.in-Some.prefix (prefix_at 128 k) c.in_ok-number.number c.in-Some.value.spelling.value (prefix_is 128 c.in-Some.prefix k (search rules) e.1.0 e.1.1) c.in_ok-number.ensures in
    record { rest = pushed second_line _ _ _ _ _ k c.in-Some.value.spelling.value _ e.0 same c.in_ok-push_entry.ensures.exact c.loop-prefix.invariant.rest }

pub returns : goal.returns
returns c = all_pushed second_line _ _ _ c.in_default.ensures.steps.0.0 c.loop-prefix.invariant.rest
