use Rattle.prefix_aggregate.proofs.InnerLaws.{no_slots_shown, slots_shown}
use Rattle.prefix_aggregate.proofs.heap.with_slot.Goals as goal

pub returns-then-child_bits-eq0 : goal.returns-then-child_bits-eq0
returns-then-child_bits-eq0 c = no_slots_shown c.args.child_bits c.if-child_bits-eq0.true

pub returns : goal.returns
returns c = slots_shown c.args.child_bits c.even_bits.result c.even_bits.ensures
