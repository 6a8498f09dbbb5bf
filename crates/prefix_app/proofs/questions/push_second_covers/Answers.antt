use Rattle.std.proofs.Common.{rules, ap, ◌++◌}
use Rattle.either.specs.declared.Either.TheVariants.{Right}
use Rattle.prefix_text.specs.Texts.{dump_text}
use Rattle.prefix_app.specs.Outcome.{second_line, second_lines, key_in, prefix_at}
use Rattle.prefix_app.proofs.LongestLaws.{prefix_is}
use Rattle.prefix_app.proofs.QuestionLaws.{all_pushed, entry_same, pushed}
use Rattle.prefix_app.proofs.questions.push_second_covers.Goals as goal

pub loop-found-init : goal.loop-found-init
loop-found-init c = record { rest = ap (λ es. c.args.text.now.items ++ dump_text (second_lines es)) c.cover-left.ensures }

pub loop-found-preserved : goal.loop-found-preserved
loop-found-preserved c =
    let e = c.in-Some.ensures.steps in
    let k = key_in 128 c.in-Some.found in
    let same = entry_same Right c.in-Some.found (prefix_at 128 k) c.in_ok-number.number c.in-Some.value.spelling.value (prefix_is 128 c.in-Some.found k (search rules) e.1.0 e.1.1) c.in_ok-number.ensures in
    record { rest = pushed second_line _ _ _ _ _ k c.in-Some.value.spelling.value _ e.0 same c.in_ok-push_entry.ensures.exact c.loop-found.invariant.rest }

pub returns : goal.returns
returns c = all_pushed second_line _ _ _ c.in_default.ensures.steps.0.0 c.loop-found.invariant.rest
