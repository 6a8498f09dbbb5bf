use Rattle.std.proofs.Common.{length, ap}
use Rattle.std.specs.Map.Iter.{TakesFirst, TakesLast}
use Rattle.std.proofs.iter.runs.Sources.{as_is, as_is_back, from_front, from_back}
use Rattle.prefix_table.proofs.node.BitIter.new.Goals as goal

pub returns-clause-runs : goal.returns-clause-runs
returns-clause-runs c = λ p seen. as_is p p.from (from_front (TakesFirst (λ x. x)) (λ x. x) (λ s. s) (λ s t h. ap length h.0) (λ s x t h. h) p seen)

pub returns-clause-runs_back : goal.returns-clause-runs_back
returns-clause-runs_back c = λ p seen. as_is_back p p.from (from_back (TakesLast (λ x. x)) (λ x. x) (λ s. s) (λ s t h. ap length h.0) (λ s x t h. h) p seen)
