use Rattle.std.proofs.Common.{◌≡◌, ◌++◌, take, length}
use Rattle.prefix_model.specs.Keys.{low_bits}
use Rattle.prefix_model.specs.Walks.{covers}
use Rattle.prefix_archive.specs.Iterating.{covers_from}
use Rattle.prefix_text.specs.Texts.{dump_text}
use Rattle.prefix_app.specs.Outcome.{first_lines, key_in}
use Rattle.prefix_app.proofs.questions.push_first_covers.Given as goal

abbrev pub invariant-loop-found : goal.invariant-loop-found
invariant-loop-found l = record {
  rest : l.text.items ++ dump_text (first_lines (covers_from l.left.map.table.entries (take l.left.prefix.1 (low_bits 32 l.left.prefix.0)) l.left.from))
      ≡ l.fn.text.items ++ dump_text (first_lines (covers l.fn.archive.t1.table.entries (key_in 32 l.fn.prefix)));
}

abbrev pub decreases-loop-found : goal.decreases-loop-found
decreases-loop-found l = length (covers_from l.left.map.table.entries (take l.left.prefix.1 (low_bits 32 l.left.prefix.0)) l.left.from)
