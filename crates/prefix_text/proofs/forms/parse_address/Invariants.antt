use Rattle.std.proofs.Common.{◌≡◌, ◌<◌, ◌^◌, drop}
use Rattle.prefix_text.specs.Forms.{read_digits}
use Rattle.prefix_text.proofs.forms.parse_address.Given as goal

abbrev pub invariant-loop-byte : goal.invariant-loop-byte
invariant-loop-byte l = record {
  small : l.number < 16 ^ l.byte-index;
  rest : read_digits 16 l.number (drop l.byte-index l.text) ≡ read_digits 16 0 l.text;
}
