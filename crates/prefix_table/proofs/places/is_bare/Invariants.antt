use Rattle.prefix_model.specs.TableViews.{position_at}
use Rattle.prefix_table.proofs.BarePlaces.{IsBareTo}
use Rattle.prefix_table.proofs.places.is_bare.Given as goal

abbrev pub invariant-loop-level : goal.invariant-loop-level
invariant-loop-level g l = IsBareTo l.table (position_at l.table l.place.at) l.place.level l.place.number l.level l.start l.count
