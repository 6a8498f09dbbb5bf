-- What a removal takes from the kept positions of a table.
--     is_bare stored is_position p      no key is stored in the node at p, and no position is kept right below it
--     prune m kept p      the kept positions without p, where it is bare
--     pruned m kept k      the same for each position of a key but the empty one, the longest first
--     without_below m k, kept_outside kept k      what is not below a key
--     IsClosed kept, HasNoneBelow kept p      each position above a kept one is kept;  no kept position stands properly below p
--     BareHasNoneBelow      no kept position stands right below, exactly where none stands properly below
use Rattle.std.specs.Prelude.{◌≡◌, ◌↔◌, ℕ, zero, suc, ◌+◌, ◌/◌, ◌%◌, ◌<◌, ◌==◌, ◌&&◌, ◌||◌, not, Bool, true, false, cond, ◌++◌, length, take}
use Rattle.std.specs.FinMap.{get, contains_key, remove, retain_keys}
use Rattle.prefix_model.specs.Keys.{KeyBits}
use Rattle.prefix_model.specs.Tables.{KeyMap, Values}
use Rattle.prefix_model.specs.Positions.{PositionSet, data_bits, child_bits}
use Rattle.prefix_model.specs.Masks.{begins_with}

abbrev pub is_bare : {V : Type 0} → Values V → (KeyBits → Bool) → KeyBits → Bool
is_bare stored is_position p = (data_bits stored p == 0) && (child_bits is_position p == 0)

abbrev pub prune : {V : Type 0} → KeyMap V → PositionSet → KeyBits → PositionSet
prune m kept p = cond (is_bare (get m) (contains_key kept) p) (remove kept p) kept

-- the n positions of k that are 5, 10, .. bits longer than d, the longest first
abbrev pub prune_steps : {V : Type 0} → KeyMap V → PositionSet → KeyBits → ℕ → ℕ → PositionSet
prune_steps m kept k zero d = kept
prune_steps m kept k (suc n) d = prune m (prune_steps m kept k n (d + 5)) (take (d + 5) k)

abbrev pub pruned : {V : Type 0} → KeyMap V → PositionSet → KeyBits → PositionSet
pruned m kept k = prune_steps m kept k (length k / 5) 0

-- the entries whose keys do not begin with k
abbrev pub without_below : {V : Type 0} → KeyMap V → KeyBits → KeyMap V
without_below m k = retain_keys m (λ l. not (begins_with k l))

-- the positions that do not begin with k, and the empty key
abbrev pub kept_outside : PositionSet → KeyBits → PositionSet
kept_outside kept k = retain_keys kept (λ l. not (begins_with k l) || (length l == 0))

-- each position above a kept one is kept
pub record IsClosed (kept : PositionSet) : Type 0 where
  pub lengths : (p : KeyBits) → contains_key kept p ≡ true → length p % 5 ≡ 0
  pub above : (p c : KeyBits) → length c ≡ 5 → contains_key kept (p ++ c) ≡ true → contains_key kept p ≡ true

-- no kept position stands properly below p
abbrev pub HasNoneBelow : PositionSet → KeyBits → Type 0
HasNoneBelow kept p = (q : KeyBits) → 0 < length q → contains_key kept (p ++ q) ≡ false

-- where kept positions are closed, none stands five bits below a position exactly where none stands properly below it
abbrev pub BareHasNoneBelow : Type 0
BareHasNoneBelow = (kept : PositionSet) (p : KeyBits) → IsClosed kept → length p % 5 ≡ 0 → (child_bits (contains_key kept) p ≡ 0) ↔ HasNoneBelow kept p
