-- The longest stored front of a key, as a lookup tells it.
use Rattle.std.proofs.Common.{◌≡◌, ℕ, zero, suc, ◌^◌, ◌<◌, ◌≤◌, true, false, [], ◌∷◌, length, take, Option, Some, None, inl, inr, refl, sym, ap, ◌∙◌, arith, length-take}
use Rattle.std.specs.Prelude.{is_some}
use Rattle.std.specs.FinMap.{get}
use Rattle.std.specs.Option.{option_map, option_or}
use Rattle.std.proofs.Math.Nat.{mod-eq_of_lt}
use Rattle.std.proofs.lemmas.Bool.{cases_lt}
use Rattle.prefix_model.specs.Keys.{KeyBits, low_bits, number, padded}
use Rattle.prefix_model.specs.Tables.{KeyMap}
use Rattle.prefix_model.specs.Walks.{begins_with, IsMatchUnder, IsLongestUnder}
use Rattle.prefix_model.proofs.Fronts.{front_take, front_length}
use Rattle.prefix_model.proofs.KeyNumbers.{number-low_bits}
use Rattle.prefix_text.specs.Forms.{EitherPrefix, Entry}
use Rattle.prefix_app.specs.Outcome.{prefix_at}
use Rattle.prefix_app.specs.Questions.{longest, longest_within}

front_of_all : (n : ℕ) (k : KeyBits) → begins_with (take n k) k ≡ true
front_of_all zero k = refl
front_of_all (suc n) [] = refl
front_of_all (suc n) (true ∷ k) = front_of_all n k
front_of_all (suc n) (false ∷ k) = front_of_all n k

-- a value with its key
abbrev tagged : KeyBits → Option ℕ → Option (KeyBits × ℕ)
tagged p o = option_map (λ x. (p, x)) o

module _ (m : KeyMap ℕ) (k : KeyBits) where
  absent : (p : KeyBits) → begins_with p k ≡ true → (IsMatchUnder m [] k p → ⊥) → get m p ≡ None
  absent p front none = by (get m p) refl
    where
      by : (o : Option ℕ) → get m p ≡ o → o ≡ None
      by None e = refl
      by (Some v) e = absurd (none (record { stored = ap is_some e; below = refl; above = front }))

  -- what a front tells where it is not stored, and where it is
  skipped : (n : ℕ) (o : Option (KeyBits × ℕ)) → get m (take n k) ≡ None → option_or (tagged (take n k) (get m (take n k))) o ≡ o
  skipped n o e = ap (λ x. option_or (tagged (take n k) x) o) e

  met : (n v : ℕ) (q : KeyBits) → take n k ≡ q → get m q ≡ Some v → tagged (take n k) (get m (take n k)) ≡ Some (q, v)
  met n v q e f = ap (λ p. tagged p (get m p)) e ∙ ap (tagged q) f

  none_within : ((q : KeyBits) → IsMatchUnder m [] k q → ⊥) → (n : ℕ) → longest_within m k n ≡ None
  none_within none zero = ap (tagged (take zero k)) (absent (take zero k) (front_of_all zero k) (none (take zero k)))
  none_within none (suc n) = skipped (suc n) (longest_within m k n) (absent (take (suc n) k) (front_of_all (suc n) k) (none (take (suc n) k))) ∙ none_within none n

  module _ (q : KeyBits) (v : ℕ) (found : IsMatchUnder m [] k q) (most : (j : KeyBits) → IsMatchUnder m [] k j → length j ≤ length q) (stored : get m q ≡ Some v) where
    here : (n : ℕ) → length q ≡ n → take n k ≡ q
    here n e = ap (λ i. take i k) (sym e) ∙ front_take q k found.above

    past : (n : ℕ) → length q < n → n ≤ length k → get m (take n k) ≡ None
    past n l within = absent (take n k) (front_of_all n k) (λ j. let h = most (take n k) j in let s = length-take n k in absurd (omega (arith, h, s, l, within)))

    found_within : (n : ℕ) → length q ≤ n → n ≤ length k → longest_within m k n ≡ Some (q, v)
    found_within zero l within = met zero v q (here zero (omega arith)) stored
    found_within (suc n) l within = elim (cases_lt (length q) (suc n)) [
      | inl below ↦ skipped (suc n) (longest_within m k n) (past (suc n) below within) ∙ found_within n (omega arith) (omega arith)
      | inr above ↦ ap (λ o. option_or o (longest_within m k n)) (met (suc n) v q (here (suc n) (omega arith)) stored)
    ]

  pub longest_none : IsLongestUnder m [] k None → longest m k ≡ None
  longest_none none = none_within none (length k)

  pub longest_some : (q : KeyBits) (v : ℕ) → IsLongestUnder m [] k (Some q) → get m q ≡ Some v → longest m k ≡ Some (q, v)
  longest_some q v (found, most) stored = found_within q v found most stored (length k) (front_length q k found.above) (omega arith)

-- a prefix whose host bits are zero is that of its key
pub prefix_is : (w : ℕ) (p : ℕ × ℕ) (q : KeyBits) → p.0 < 2 ^ w → p.1 ≡ length q → low_bits w p.0 ≡ padded w q → p ≡ prefix_at w q
prefix_is w (a, n) q l e f = ap (λ x. (x, n)) (same a l ∙ ap number f) ∙ ap (λ x. (number (padded w q), x)) e
  where
    same : (a : ℕ) → a < 2 ^ w → a ≡ number (low_bits w a)
    same a l = sym (number-low_bits w a ∙ mod-eq_of_lt l)

-- an entry of a table as it is printed
abbrev printed : ℕ → (ℕ × ℕ → EitherPrefix) → Option (KeyBits × ℕ) → Option Entry
printed w make o = option_map (λ e. (make (prefix_at w e.0), e.1)) o

abbrev some_entry : EitherPrefix → ℕ → Option Entry
some_entry p v = Some (p, v)

-- the line of the longest match
pub found_line : (w : ℕ) (m : KeyMap ℕ) (k q : KeyBits) (v : ℕ) (p : ℕ × ℕ) (make : ℕ × ℕ → EitherPrefix) → IsLongestUnder m [] k (Some q) → get m q ≡ Some v → p ≡ prefix_at w q
    → some_entry (make p) v ≡ printed w make (longest m k)
found_line w m k q v p make found stored e = ap (λ x. some_entry (make x) v) e ∙ sym (ap (printed w make) (longest_some m k q v found stored))

pub none_line : (w : ℕ) (m : KeyMap ℕ) (k : KeyBits) (make : ℕ × ℕ → EitherPrefix) → IsLongestUnder m [] k None → None ≡ printed w make (longest m k)
none_line w m k make none = sym (ap (printed w make) (longest_none m k none))
