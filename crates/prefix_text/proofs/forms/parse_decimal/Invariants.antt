use Rattle.std.proofs.Common.{◌≡◌, ◌≤◌, drop}
use Rattle.prefix_text.specs.Forms.{read_digits}
use Rattle.prefix_text.proofs.forms.parse_decimal.Given as goal

abbrev pub invariant-loop-byte : goal.invariant-loop-byte
invariant-loop-byte l = record {
  small : l.number ≤ l.most;
  rest : read_digits 10 l.number (drop l.byte-index l.text) ≡ read_digits 10 0 l.text;
}
