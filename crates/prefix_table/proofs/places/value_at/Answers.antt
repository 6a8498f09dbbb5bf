use Rattle.std.proofs.Common.{arith, sym}
use Rattle.prefix_table.proofs.PlaceLaws.{place_within, place_set, place_clear, named_place}
use Rattle.prefix_table.proofs.places.value_at.Goals as goal

pub overflow_shr-node : goal.overflow_shr-node
overflow_shr-node g c = let w = place_within _ _ c.requires in omega (arith, w)

pub value-requires-clause-set : goal.value-requires-clause-set
value-requires-clause-set g c = place_set _ _ c.requires _ c.node.ensures.«data» c.if-node-bit-eq1.true

pub returns-then-node-bit-eq1 : goal.returns-then-node-bit-eq1
returns-then-node-bit-eq1 g c = sym (c.value.ensures _ (named_place _ _ c.requires.level c.requires.number))

pub returns-else-node-bit-eq1 : goal.returns-else-node-bit-eq1
returns-else-node-bit-eq1 g c = place_clear _ _ c.requires _ c.node.ensures.«data» c.if-node-bit-eq1.false
