use Rattle.std.proofs.Common.{◌≡◌, ◌<◌, ◌+◌, ◌*◌}
use Rattle.std.specs.List.{AllByRecursion}
use Rattle.prefix_model.specs.Masks.{set_bits}
use Rattle.prefix_model.specs.TableViews.{position_at}
use Rattle.prefix_model.specs.Counts.{total}
use Rattle.prefix_model.specs.Places.{slot_count}
use Rattle.prefix_aggregate.proofs.coverage.+counts.Given as goal

abbrev pub decreases-count_node : goal.decreases-count_node
decreases-count_node g l = 3 * l.left

abbrev pub decreases-count_slot : goal.decreases-count_slot
decreases-count_slot g l = 3 * l.left + 1

abbrev pub decreases-count_slots : goal.decreases-count_slots
decreases-count_slots g l = 3 * l.left + 2

-- what is counted, and what the slots that are left have
abbrev pub invariant-count_slots-loop-slot : goal.invariant-count_slots-loop-slot
invariant-count_slots-loop-slot g l =
    let t = slot_count l.table (position_at l.table l.at) l.left in
    record {
      can_next : (goal.iterator-count_slots-loop-slot g).can_next l.slot-iterator;
      is_finite : (goal.iterator-count_slots-loop-slot g).is_finite l.slot-iterator;
      small : AllByRecursion (λ b. b < 32) l.slot-iterator;
      counted : l.count + total t l.slot-iterator ≡ total t (set_bits l.slots);
    }
