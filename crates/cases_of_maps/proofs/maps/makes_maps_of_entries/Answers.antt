use Rattle.std.proofs.Common.{◌≤◌}
use Rattle.cases_of_maps.specs.contracts.maps.RowsIterator.TheImpl as items
use Rattle.prefix_model.proofs.IteratorLoops.{holds_along}
use Rattle.cases_of_maps.proofs.maps.makes_maps_of_entries.Goals as goal

pub from_entries-requires-clause-fits : goal.from_entries-requires-clause-fits
from_entries-requires-clause-fits g c = holds_along items.ghosts.next_gives (λ item. item.0.1 ≤ 32) (λ s t x given. given) _
