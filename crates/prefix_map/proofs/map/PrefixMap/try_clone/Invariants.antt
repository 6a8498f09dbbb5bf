use Rattle.std.proofs.Common.{◌≡◌, length}
use Rattle.prefix_model.specs.Building.{insert_all}
use Rattle.prefix_model.specs.Positions.{position_set}
use Rattle.prefix_map.specs.Iterators.{iter_left}
use Rattle.prefix_map.proofs.map.PrefixMap.try_clone.Given as goal

-- with the entries that are left the copy has all, and it keeps the positions of those it has
abbrev pub invariant-loop-prefix : goal.invariant-loop-prefix
invariant-loop-prefix g l =
    record {
      left : insert_all l.copy.entries (iter_left l.entries) ≡ l.self.entries;
      kept : l.copy.kept ≡ position_set l.copy.entries;
    }

abbrev pub decreases-loop-prefix : goal.decreases-loop-prefix
decreases-loop-prefix g l = length (iter_left l.entries)
