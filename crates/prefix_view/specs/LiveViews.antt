-- What a view of a live table shows.
--     IsTrieRef w t at n len      the node of this number is that of the place, the key of len bits that spell n
--     seen_at t n len      what the view shows
use Rattle.std.specs.Prelude.{◌≡◌, ℕ, ◌^◌, ◌<◌, ◌≤◌, true, Some}
use Rattle.std.specs.FinMap as map
use Rattle.prefix_model.specs.Keys.{low_bits}
use Rattle.prefix_model.specs.Walks.{node_of, KeepsPositions}
use Rattle.prefix_model.specs.TableViews.{TableView}
use Rattle.prefix_model.specs.Views.{Seen}

module _ {T : Type 0} where
  pub record IsTrieRef (w : ℕ) (t : TableView T) (at n len : ℕ) : Type 0 where
    pub keeps : KeepsPositions w t.entries t.kept
    pub within : len ≤ w
    pub small : n < 2 ^ len
    pub named : map.get t.places at ≡ Some (node_of (low_bits len n))
    pub kept : map.contains_key t.kept (node_of (low_bits len n)) ≡ true

  abbrev pub seen_at : TableView T → ℕ → ℕ → Seen T
  seen_at t n len = record { entries = t.entries; kept = t.kept; place = low_bits len n }
