use Rattle.std.proofs.Common.{◌≡◌, ◌++◌, ◌≤◌}
use Rattle.prefix_text.specs.Added.{Stays}
use Rattle.prefix_text.specs.Texts.{hex_digits}
use Rattle.prefix_text.proofs.text.push_hexadecimal.Given as goal

abbrev pub invariant-loop-place : goal.invariant-loop-place
invariant-loop-place l = record {
  left : l.text.items ++ hex_digits l.place l.number ≡ l.fn.text.items ++ hex_digits l.count l.number;
  kept : Stays l.fn.text.items l.text.items;
  within : l.place ≤ 32;
}

abbrev pub decreases-loop-place : goal.decreases-loop-place
decreases-loop-place l = l.place
