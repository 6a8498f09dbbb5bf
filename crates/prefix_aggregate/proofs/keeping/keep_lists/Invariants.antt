use Rattle.std.proofs.Common.{◌≡◌, ◌+◌, ◌<◌, ◌^◌, ◌++◌, length, map}
use Rattle.std.specs.List.{filter}
use Rattle.prefix_model.specs.Masks.{set_bits}
use Rattle.prefix_aggregate.specs.Nodes.{list_at, differs, kept_mask, kept_of}
use Rattle.prefix_aggregate.specs.Stacks.{kept_lists, IsStacked}
use Rattle.prefix_aggregate.proofs.KeepingLaws.{weight}
use Rattle.prefix_aggregate.proofs.keeping.keep_lists.Given as goal

-- what is left is kept before what is kept so far
abbrev pub invariant-loop-rest : goal.invariant-loop-rest
invariant-loop-rest g l = record {
  small : l.rest < 2 ^ 31;
  stacked : IsStacked l.stacks;
  mask : l.mask + weight (differs g.T.Ord.cmp l.values l.lists) (set_bits l.rest) ≡ kept_mask g.T.Ord.cmp l.values l.lists l.inner;
  masks : l.stacks.masks.items ≡ l.initial.stacks.masks.items;
  lists : map (list_at l.values l.lists) (filter (differs g.T.Ord.cmp l.values l.lists) (set_bits l.rest)) ++ kept_lists l.stacks ≡ kept_of g.T.Ord.cmp l.values l.lists l.inner ++ kept_lists l.initial.stacks;
}

abbrev pub decreases-loop-rest : goal.decreases-loop-rest
decreases-loop-rest g l = length (set_bits l.rest)
