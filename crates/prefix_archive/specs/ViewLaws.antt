-- The place of a view of an archived map, out of the facts that it keeps.
use Rattle.std.specs.Prelude.{◌≡◌, ◌⊎◌, ℕ, ◌%◌, ◌≤◌, Bool, true, false, [], ◌++◌, length, is_some}
use Rattle.std.proofs.Common.{inl, inr, refl, sym, ap, ◌∙◌, arith, length-append, append_assoc}
use Rattle.std.specs.FinMap as map
use Rattle.std.proofs.lemmas.Bool.{eq-eqb, eqb-true}
use Rattle.prefix_model.specs.Keys.{KeyBits, low_bits, stands_in}
use Rattle.prefix_model.specs.Tables.{KeyMap, HasWidth}
use Rattle.prefix_model.specs.Positions.{position_set, positions_in, has_node_length}
use Rattle.prefix_model.specs.InPlace.{is_position}
use Rattle.prefix_model.specs.Walks.{node_of, KeepsPositions}
use Rattle.prefix_model.proofs.KeyLemmas.{stands_in-keys}
use Rattle.prefix_model.proofs.KeyNumbers.{length-low_bits}
use Rattle.prefix_model.proofs.Building.{get-position_set, mark_if}
use Rattle.prefix_model.proofs.Archive.Levels.{lists_positions}
use Rattle.prefix_model.specs.Views.{IsPlace}
use Rattle.prefix_archive.specs.ArchivedViews.{seen_in}

module _ {V : Type 0} (m : KeyMap V) where
  -- the position set has the positions
  pub keeps_position : (p : KeyBits) → map.contains_key (position_set m) p ≡ is_position m p
  unfolding is_position
  keeps_position p = ap is_some (get-position_set m p) ∙ marked (stands_in (positions_in m) p)
    where
      marked : (b : Bool) → is_some (mark_if b) ≡ b
      marked true = refl
      marked false = refl

  -- a position is the root, or a front of a stored key with a node's length
  abbrev Front : KeyBits → Type 0
  Front p = (p ≡ []) ⊎ ((has_node_length p ≡ true) × ((k : KeyBits) × (rest : KeyBits) × (stands_in (map.keys m) k ≡ true) × (k ≡ p ++ rest)))

  front_of : (p : KeyBits) → map.contains_key (position_set m) p ≡ true → Front p
  unfolding is_position
  front_of p h = ((lists_positions (map.keys m)).members p).0 (sym (keeps_position p) ∙ h)

  kept_front : (p : KeyBits) → Front p → map.contains_key (position_set m) p ≡ true
  unfolding is_position
  kept_front p f = keeps_position p ∙ ((lists_positions (map.keys m)).members p).1 f

  five : (p : KeyBits) → Front p → length p % 5 ≡ 0
  five p (inl e) = omega (arith, ap length e)
  five p (inr (l, k)) = eqb-true (length p % 5) 0 l

  pub position_length : (p : KeyBits) → is_position m p ≡ true → length p % 5 ≡ 0
  position_length p h = five p (front_of p (keeps_position p ∙ h))

  pub keeps_positions : (w : ℕ) → HasWidth w m → KeepsPositions w m (position_set m)
  keeps_positions w wide = record {
    width = wide;
    kept_width = λ p h. within p (front_of p h);
    lengths = λ p h. five p (front_of p h);
    root = kept_front [] (inl refl);
    above = λ p c l h. up p c l (front_of (p ++ c) h);
    stored = λ p r l h. kept_front p (inr (eq-eqb (length p % 5) 0 l, (p ++ r, r, stands_in-keys m (p ++ r) ∙ h, refl)));
  }
    where
      within : (p : KeyBits) → Front p → length p ≤ w
      within p (inl e) = omega (arith, ap length e)
      within p (inr (l, k)) =
          let long : length k.0 ≤ w = wide k.0 (sym (stands_in-keys m k.0) ∙ k.2) in
          let a = ap length k.3 in
          let b = length-append p k.1 in omega (arith, a, b, long)

      up : (p c : KeyBits) → length c ≡ 5 → Front (p ++ c) → map.contains_key (position_set m) p ≡ true
      up p c l (inl e) = absurd (let a = ap length e in let b = length-append p c in omega (arith, a, b, l))
      up p c l (inr (n, k)) =
          let a = eqb-true (length (p ++ c) % 5) 0 n in
          let b = length-append p c in
          kept_front p (inr (eq-eqb (length p % 5) 0 (omega (arith, a, b, l)), (k.0, c ++ k.1, k.2, k.3 ∙ append_assoc p c k.1)))

  pub archived_place : (w depth path n len : ℕ) → HasWidth w m → is_position m (low_bits depth path) ≡ true → low_bits depth path ≡ node_of (low_bits len n) → len ≤ w → IsPlace w (seen_in m n len)
  archived_place w depth path n len wide kept at within = record {
    keeps = keeps_positions w wide;
    within = let l = length-low_bits len n in omega (arith, l, within);
    kept = ap (map.contains_key (position_set m)) (sym at) ∙ keeps_position (low_bits depth path) ∙ kept;
  }
