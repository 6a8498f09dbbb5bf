use Rattle.std.proofs.Common.{◌≡◌, drop}
use Rattle.prefix_model.specs.Candidates.{has}
use Rattle.prefix_aggregate.proofs.writing.has.Given as goal

-- what is left has the value where the list does
abbrev pub invariant-loop-x : goal.invariant-loop-x
invariant-loop-x g l = has g.T.Ord.cmp (drop l.x-index l.list) l.value ≡ has g.T.Ord.cmp l.list l.value
