-- What holds of the aggregations beside the least table. The contracts of `aggregates` say that it does.
--     FillsEach cmp      a fill keeps the answers of the table, answers d elsewhere, with the fewest keys, and stays at a second use
--     ConsistentKeepsAnswers eq, ConsistentIsStable eq      the consistent table answers at every key as the table;  it is its own consistent table
--     SetIsStable V      the consistent set of a consistent set is itself
--     LeastIsSetAggregate cmp      the keys of the least table of a set are the set aggregate
--     SetAggregateCovers, SetAggregateIsStable      the set aggregate covers the same addresses;  it is its own aggregate
--     HasPrefixOf m p      some key of m is a prefix of p
--     LeastHasPrefixes cmp      every address below p has an answer exactly where some key of the least table is a prefix of p
use Rattle.std.specs.Prelude.{◌≡◌, ◌↔◌, ℕ, ◌+◌, ◌≤◌, Bool, true, [], length, Some, IsSome}
use Rattle.std.specs.declared.cmp.Ordering.{Ordering}
use Rattle.std.specs.Option.{option_or}
use Rattle.std.specs.FinMap.{get, len}
use Rattle.prefix_model.specs.Keys.{KeyBits}
use Rattle.prefix_model.specs.Tables.{KeyMap, answer, SameAnswers, HasWidth}
use Rattle.prefix_model.specs.LeastTable.{least_table}
use Rattle.prefix_model.specs.Masks.{begins_with}
use Rattle.prefix_model.specs.Coverage.{IsCovered}
use Rattle.prefix_model.specs.Aggregates.{fill_table, IsSetAggregate, consistent_set, consistent_table}

module _ {V : Type 0} (cmp : V → V → Ordering) where
  pub record Fills (w : ℕ) (m : KeyMap V) (d : V) : Type 0 where
    pub answers : (k : KeyBits) → length k ≡ w → answer (fill_table cmp w m d) k ≡ option_or (answer m k) (Some d)
    pub fewest : (n : KeyMap V) → HasWidth w n → ((k : KeyBits) → length k ≡ w → answer n k ≡ option_or (answer m k) (Some d)) → len (fill_table cmp w m d) ≤ len n
    pub one_more : len (fill_table cmp w m d) ≤ len m + 1
    pub at_root : IsSome (get (fill_table cmp w m d) [])
    pub stable : fill_table cmp w (fill_table cmp w m d) d ≡ fill_table cmp w m d

  abbrev pub FillsEach : Type 0
  FillsEach = (w : ℕ) (m : KeyMap V) (d : V) → Fills w m d

module _ {V : Type 0} (eq : V → V → Bool) where
  abbrev pub ConsistentKeepsAnswers : Type 0
  ConsistentKeepsAnswers = (m : KeyMap V) (k : KeyBits) → answer (consistent_table eq m) k ≡ answer m k

  abbrev pub ConsistentIsStable : Type 0
  ConsistentIsStable = (m : KeyMap V) → consistent_table eq (consistent_table eq m) ≡ consistent_table eq m

abbrev pub SetIsStable : Type 0 → Type 0
SetIsStable V = (m : KeyMap V) → consistent_set (consistent_set m) ≡ consistent_set m

module _ (cmp : Unit {0} → Unit {0} → Ordering) where
  abbrev pub LeastIsSetAggregate : Type 0
  LeastIsSetAggregate = (w : ℕ) (m n : KeyMap (Unit {0})) → IsSetAggregate w m n ↔ (n ≡ least_table cmp w m)

abbrev pub SetAggregateCovers : Type 0
SetAggregateCovers = (w : ℕ) (m n : KeyMap (Unit {0})) → IsSetAggregate w m n → SameAnswers w m n

abbrev pub SetAggregateIsStable : Type 0
SetAggregateIsStable = (w : ℕ) (m n t : KeyMap (Unit {0})) → IsSetAggregate w m n → IsSetAggregate w n t → t ≡ n

abbrev pub HasPrefixOf : {V : Type 0} → KeyMap V → KeyBits → Type 0
HasPrefixOf m p = (q : KeyBits) × IsSome (get m q) × (begins_with q p ≡ true)

abbrev pub LeastHasPrefixes : {V : Type 0} → (V → V → Ordering) → Type 0
LeastHasPrefixes {V} cmp = (w : ℕ) (m : KeyMap V) (p : KeyBits) → length p ≤ w → IsCovered w m p ↔ HasPrefixOf (least_table cmp w m) p

-- two values are equal where the test says so
abbrev pub TellsEqual : {V : Type 0} → (V → V → Bool) → Type 0
TellsEqual {V} eq = (x y : V) → eq x y ≡ true → x ≡ y
