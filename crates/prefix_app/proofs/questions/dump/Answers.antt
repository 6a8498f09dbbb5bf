use Rattle.std.specs.FinMap.{entries}
use Rattle.prefix_app.specs.Outcome.{first_lines, second_lines}
use Rattle.prefix_app.proofs.QuestionLaws.{dumped}
use Rattle.prefix_app.proofs.questions.dump.Goals as goal

pub returns : goal.returns
returns c = dumped (first_lines (entries c.args.archive.t1.table.entries)) (second_lines (entries c.args.archive.t2.table.entries)) _ _ _ c.new-text.ensures.items c.in_ok-push_first.ensures c.in_ok-push_second.ensures
