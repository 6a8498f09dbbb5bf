use Rattle.std.proofs.Common.{◌≡◌, ◌+◌, ◌≤◌, length}
use Rattle.prefix_text.specs.Lines.{first_bad, is_entry, lines}
use Rattle.prefix_text.proofs.lines.first_bad_line.Given as goal

abbrev pub invariant-loop-line : goal.invariant-loop-line
invariant-loop-line l = record {
  left : first_bad is_entry l.number (lines l.rest) ≡ first_bad is_entry 1 (lines l.fn.text);
  count : l.number + length l.rest ≤ length l.fn.text + 1;
}

abbrev pub decreases-loop-line : goal.decreases-loop-line
decreases-loop-line l = length l.rest
