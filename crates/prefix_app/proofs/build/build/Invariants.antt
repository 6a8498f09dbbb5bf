use Rattle.std.proofs.Common.{◌≡◌, length}
use Rattle.prefix_model.specs.Building.{insert_all}
use Rattle.prefix_text.specs.Lines.{entries_of, lines}
use Rattle.prefix_app.specs.Outcome.{built, first_entries, second_entries}
use Rattle.prefix_app.proofs.build.build.Given as goal

abbrev pub invariant-loop-line : goal.invariant-loop-line
invariant-loop-line l = record {
  first : insert_all l.first.entries (first_entries (entries_of (lines l.rest))) ≡ built (first_entries (entries_of (lines l.text)));
  second : insert_all l.second.entries (second_entries (entries_of (lines l.rest))) ≡ built (second_entries (entries_of (lines l.text)));
}

abbrev pub decreases-loop-line : goal.decreases-loop-line
decreases-loop-line l = length l.rest
