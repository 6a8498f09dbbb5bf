use Rattle.std.proofs.Common.{◌≡◌, ◌++◌, take, length}
use Rattle.prefix_model.specs.Keys.{low_bits}
use Rattle.prefix_model.specs.Walks.{covers}
use Rattle.prefix_archive.specs.Iterating.{covers_from}
use Rattle.prefix_text.specs.Texts.{dump_text}
use Rattle.prefix_app.specs.Outcome.{second_lines, key_in}
use Rattle.prefix_app.proofs.questions.push_second_covers.Given as goal

abbrev pub invariant-loop-found : goal.invariant-loop-found
invariant-loop-found l = record {
  rest : l.text.items ++ dump_text (second_lines (covers_from l.left.map.table.entries (take l.left.prefix.1 (low_bits 128 l.left.prefix.0)) l.left.from))
      ≡ l.fn.text.items ++ dump_text (second_lines (covers l.fn.archive.t2.table.entries (key_in 128 l.fn.prefix)));
}

abbrev pub decreases-loop-found : goal.decreases-loop-found
decreases-loop-found l = length (covers_from l.left.map.table.entries (take l.left.prefix.1 (low_bits 128 l.left.prefix.0)) l.left.from)
