-- What a cell and a store end as, where a `&mut` to an item is returned.
use Rattle.std.specs.Prelude.{ℕ}
use Rattle.std.specs.Borrow.{Lends, Fml, RattleType, MutBor}
use Rattle.prefix_blocks.specs.Blocks.{BlocksView, with_item}
use Rattle.prefix_blocks.specs.contracts.store.Blocks.{the_row}

-- once the borrow r ends, the place has the last value written through r
abbrev pub lends_item : (A : RattleType) → MutBor (BlocksView A.Denot) → ℕ → ℕ → MutBor A.Denot → Fml
lends_item A s at place r = Lends (the_row A) A s r (with_item s.now at place)
