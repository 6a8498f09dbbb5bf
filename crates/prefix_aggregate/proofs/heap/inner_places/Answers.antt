use Rattle.prefix_aggregate.proofs.InnerLaws.{inner_found, none_inner}
use Rattle.prefix_aggregate.proofs.heap.inner_places.Goals as goal

pub returns-then-is_bare : goal.returns-then-is_bare
returns-then-is_bare c = let bare = c.is_bare.ensures c.if-is_bare.true in none_inner c.args.data_bits c.args.child_bits bare.0 bare.1

pub returns : goal.returns
returns c = inner_found c.args.data_bits c.args.child_bits c.with_slot-last.result c.with_slot-last.ensures c.next_inner-third.result c.next_inner-second.result c.next_inner-first.result c.next_inner.result c.next_inner-third.ensures c.next_inner-second.ensures c.next_inner-first.ensures c.next_inner.ensures
