use Rattle.prefix_model.specs.Masks.{set_bits}
use Rattle.prefix_layout.specs.Writing.{filled_bits}
use Rattle.prefix_layout.proofs.Settling.{Filling}
use Rattle.prefix_layout.proofs.write.filled_children.Given as goal

abbrev pub invariant-loop-bit : goal.invariant-loop-bit
invariant-loop-bit l = record {
  can_next : (goal.iterator-loop-bit).can_next l.bit-iterator;
  is_finite : (goal.iterator-loop-bit).is_finite l.bit-iterator;
  filling : Filling l.filled l.next l.bit-iterator l.children (filled_bits (set_bits l.child_bits) l.children);
}
