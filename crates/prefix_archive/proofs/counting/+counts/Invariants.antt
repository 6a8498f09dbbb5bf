use Rattle.std.proofs.Common.{◌≡◌, ◌<◌, ◌+◌, ◌*◌, ◌++◌, take}
use Rattle.std.specs.List.{AllByRecursion}
use Rattle.prefix_model.specs.Coverage.{answered}
use Rattle.prefix_model.specs.Keys.{low_bits}
use Rattle.prefix_model.specs.Masks.{set_bits}
use Rattle.prefix_model.specs.Counts.{total}
use Rattle.prefix_archive.specs.Coverage.{answers_from}
use Rattle.prefix_archive.proofs.counting.+counts.Given as goal

abbrev pub decreases-count_node : goal.decreases-count_node
decreases-count_node g l = 3 * l.left

abbrev pub decreases-count_slot : goal.decreases-count_slot
decreases-count_slot g l = 3 * l.left + 1

abbrev pub decreases-count_slots : goal.decreases-count_slots
decreases-count_slots g l = 3 * l.left + 2

-- what is counted, and what the slots that are left have
abbrev pub invariant-count_slots-loop-slot : goal.invariant-count_slots-loop-slot
invariant-count_slots-loop-slot g l =
    let p = take l.depth (g.P.R.Bits.bits l.fn.key) in
    record {
      can_next : (goal.iterator-count_slots-loop-slot g).can_next l.slot-iterator;
      is_finite : (goal.iterator-count_slots-loop-slot g).is_finite l.slot-iterator;
      small : AllByRecursion (λ b. b < 32) l.slot-iterator;
      counted : l.count + total (λ c. answered l.left (answers_from l.archive.table.entries (p ++ low_bits 5 c))) l.slot-iterator
          ≡ total (λ c. answered l.left (answers_from l.archive.table.entries (p ++ low_bits 5 c))) (set_bits l.slots);
    }
