use Rattle.std.proofs.Common.{◌≡◌, ◌<◌, ◌++◌, true, map}
use Rattle.std.specs.List.{AllByRecursion}
use Rattle.prefix_model.specs.Keys.{low_bits}
use Rattle.prefix_model.specs.TableViews.{position_at}
use Rattle.prefix_layout.specs.Writing.{is_kept, children_where}
use Rattle.prefix_layout.proofs.Queue.{Pushed}
use Rattle.prefix_layout.proofs.write.push_children.Given as goal

abbrev pub invariant-loop-bit : goal.invariant-loop-bit
invariant-loop-bit g l =
    let kept = is_kept l.table in
    let at = position_at l.table l.at in
    record {
      can_next : (goal.iterator-loop-bit g).can_next l.bit-iterator;
      is_finite : (goal.iterator-loop-bit g).is_finite l.bit-iterator;
      each : AllByRecursion (λ b. (b < 32) × (kept (at ++ low_bits 5 b) ≡ true)) l.bit-iterator;
      pushed : Pushed l.table kept l.initial.nodes.items l.nodes.items (map (λ b. at ++ low_bits 5 b) l.bit-iterator) (children_where kept at);
    }
