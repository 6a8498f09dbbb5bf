-- Aggregations beside the least table.
--     filled m d, fill_table cmp w m d      m with d at the empty key where nothing stands there;  its least table
--     IsSetAggregate w m n      n has the greatest keys all of whose addresses have an answer in m
--     above m k      the value at the longest stored proper front of k
--     consistent_set m      the keys of m with no proper front among them
--     consistent_table eq m      the entries whose longest stored proper front has another value, or is absent
--     consistent_entries eq n f v      the same, entry by entry
use Rattle.std.specs.Prelude.{◌≡◌, ◌↔◌, ℕ, zero, suc, ◌≤◌, not, cond, Bool, true, false, List, [], ◌∷◌, ◌++◌, length, Option, None, IsSome, is_some, if◌then◌else◌}
use Rattle.std.specs.declared.cmp.Ordering.{Ordering}
use Rattle.std.specs.declared.cmp.Ordering.TheVariants.{Equal}
use Rattle.std.specs.Option.{option_or, option_eq}
use Rattle.std.specs.FinMap.{get, insert, contains_key, retain_keys}
use Rattle.prefix_model.specs.Keys.{KeyBits}
use Rattle.prefix_model.specs.Tables.{KeyMap, Values, after}
use Rattle.prefix_model.specs.LeastTable.{least_table, entry, with_halves}
use Rattle.prefix_model.specs.Coverage.{IsCovered}

-- d at the empty key, unless a value stands there
abbrev pub filled : {V : Type 0} → KeyMap V → V → KeyMap V
filled m d = if contains_key m [] then m else insert m [] d

abbrev pub fill_table : {V : Type 0} → (V → V → Ordering) → ℕ → KeyMap V → V → KeyMap V
fill_table cmp w m d = least_table cmp w (filled m d)

-- the order of the one value of a set
abbrev pub unit_cmp : Unit {0} → Unit {0} → Ordering
unit_cmp x y = Equal

-- the members are the keys all of whose addresses have an answer, and whose parent, if there is one, has a hole below it
abbrev pub IsSetAggregate : {V : Type 0} → ℕ → KeyMap V → KeyMap (Unit {0}) → Type 0
IsSetAggregate w m n = (k : KeyBits) → IsSome (get n k)
    ↔ ((length k ≤ w) × IsCovered w m k × ((p : KeyBits) (b : Bool) → k ≡ p ++ b ∷ [] → ¬ IsCovered w m p))

-- the value of f at the longest proper front of k that has one, and v where none has
abbrev pub above_under : {V : Type 0} → Option V → Values V → Values V
above_under v f [] = v
above_under v f (b ∷ k) = above_under (option_or (f []) v) (after b f) k

abbrev pub above : {V : Type 0} → KeyMap V → Values V
above m = above_under None (get m)

abbrev pub consistent_set : {V : Type 0} → KeyMap V → KeyMap V
consistent_set m = retain_keys m (λ k. not (is_some (above m k)))

-- x, where v is another value or none
abbrev pub unless_same : {V : Type 0} → (V → V → Bool) → Option V → Option V → Option V
unless_same eq x v = cond (not (option_eq eq x v)) x None

abbrev pub consistent_table : {V : Type 0} → (V → V → Bool) → KeyMap V → KeyMap V
consistent_table eq m = retain_keys m (λ k. not (option_eq eq (get m k) (above m k)))

-- its entries in key order, by recursion: those at and below a key with n bits to go, where v stands above
abbrev pub consistent_entries : {V : Type 0} → (V → V → Bool) → ℕ → Values V → Option V → List (KeyBits × V)
consistent_entries eq zero f v = entry (unless_same eq (f []) v)
consistent_entries eq (suc n) f v =
    let u = option_or (f []) v in
    with_halves (unless_same eq (f []) v) (consistent_entries eq n (after false f) u) (consistent_entries eq n (after true f) u)
