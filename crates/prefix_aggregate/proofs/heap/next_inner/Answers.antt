use Rattle.std.proofs.Common.{ap, ◌∙◌}
use Rattle.std.specs.Prelude.{max}
use Rattle.std.specs.Int.{bit_at}
use Rattle.std.proofs.lemmas.Nat.Bits.{bit_at_or}
use Rattle.prefix_aggregate.proofs.heap.next_inner.Goals as goal

pub returns : goal.returns
returns c = λ b. bit_at_or c.args.last c.with_half.result b ∙ ap (max (bit_at c.args.last b)) (c.with_half.ensures b)
