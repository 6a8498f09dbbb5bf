use Rattle.std.proofs.Common.{◌≤◌}
use Rattle.either.specs.Either.{MatchEither}
use Rattle.cases_of_joint_tables.specs.contracts.joint_changes.RowsIterator.TheImpl as items
use Rattle.prefix_model.proofs.IteratorLoops.{holds_along}
use Rattle.cases_of_joint_tables.proofs.joint_changes.map_of.Goals as goal

pub from_entries-requires-clause-fits : goal.from_entries-requires-clause-fits
from_entries-requires-clause-fits c = holds_along items.ghosts.next_gives (λ item. MatchEither item.0 (λ p. p.1 ≤ 32) (λ p. p.1 ≤ 128)) (λ s t x given. given) _
