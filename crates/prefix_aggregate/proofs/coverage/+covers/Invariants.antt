use Rattle.std.proofs.Common.{◌≡◌, ◌+◌, ◌*◌, ◌<◌, ℕ}
use Rattle.std.specs.Int.{bit_at}
use Rattle.prefix_model.specs.TableViews.{position_at}
use Rattle.prefix_model.specs.Places.{CoversSlot}
use Rattle.prefix_aggregate.proofs.coverage.+covers.Given as goal

abbrev pub decreases-covers_behind : goal.decreases-covers_behind
decreases-covers_behind g l = 3 * l.left

abbrev pub decreases-covers_slot : goal.decreases-covers_slot
decreases-covers_slot g l = 3 * l.left + 1

abbrev pub decreases-covers_slots : goal.decreases-covers_slots
decreases-covers_slots g l = 3 * l.left + 2

-- the slots so far that are asked for are covered
abbrev pub invariant-covers_slots-loop-slot : goal.invariant-covers_slots-loop-slot
invariant-covers_slots-loop-slot g l = (c : ℕ) → c < l.slot → bit_at l.slots c ≡ 1 → CoversSlot l.table (position_at l.table l.at) l.left c
