use Rattle.std.proofs.Common.{◌<◌, ◌+◌, ◌++◌, length, map, replicate}
use Rattle.std.specs.List.{AllByRecursion}
use Rattle.prefix_model.specs.Keys.{low_bits}
use Rattle.prefix_model.specs.TableViews.{key_of}
use Rattle.prefix_layout.specs.Reads.{set_children, keys_below, waiting_keys, waiting_depths}
use Rattle.prefix_layout.proofs.Pushing.{Pushing}
use Rattle.prefix_layout.proofs.read.push_children.Given as goal

abbrev pub invariant-loop-child : goal.invariant-loop-child
invariant-loop-child g l =
    let bits = g.R.Bits.bits in
    let p = key_of (bits l.fn.path) l.fn.depth in
    record {
      can_next : (goal.iterator-loop-child g).can_next l.child-iterator;
      is_finite : (goal.iterator-loop-child g).is_finite l.child-iterator;
      small : AllByRecursion (λ b. b < 32) l.child-iterator;
      pushing :
          Pushing g.R.Bits.WIDTH l.fn.depth p (waiting_keys bits l.fn.queue.items ++ keys_below p l.fn.child_bits)
          (waiting_depths l.fn.queue.items ++ replicate (length (set_children l.fn.child_bits)) (l.fn.depth + 5))
          (map (low_bits 5) l.child-iterator) (waiting_keys bits l.queue.items) (waiting_depths l.queue.items);
    }
