use Rattle.std.proofs.Common.{◌≡◌, ◌++◌, take, length}
use Rattle.std.specs.FinMap.{entries}
use Rattle.prefix_model.specs.Keys.{low_bits}
use Rattle.prefix_archive.specs.ArchivedViews.{seen_in}
use Rattle.prefix_archive.specs.Iterating.{left_of}
use Rattle.prefix_text.specs.Texts.{dump_text}
use Rattle.prefix_app.specs.Outcome.{second_lines}
use Rattle.prefix_app.proofs.questions.push_second.Given as goal

-- with the lines of the entries that are left the text has all
abbrev pub invariant-loop-prefix : goal.invariant-loop-prefix
invariant-loop-prefix l = record {
  rest : l.text.items ++ dump_text (second_lines (left_of (λ v. seen_in v.at.map.table.entries v.place v.prefix_len) l.left.view (take l.left.last.1 (low_bits 128 l.left.last.0)) l.left.inclusive))
      ≡ l.fn.text.items ++ dump_text (second_lines (entries l.fn.archive.t2.table.entries));
}

abbrev pub decreases-loop-prefix : goal.decreases-loop-prefix
decreases-loop-prefix l = length (left_of (λ v. seen_in v.at.map.table.entries v.place v.prefix_len) l.left.view (take l.left.last.1 (low_bits 128 l.left.last.0)) l.left.inclusive)
