-- Tables whose keys and kept positions fit a width, after changes that take some away.
use Rattle.std.proofs.Common.{◌≡◌, ℕ, zero, suc, ◌+◌, ◌≤◌, Bool, true, false, cond, [], ◌++◌, length, take, Option, None, inl, inr, refl, sym, ap, ◌∙◌, arith, length-append}
use Rattle.std.specs.Prelude.{◌⊎◌, IsSome, is_some, not}
use Rattle.std.specs.Ordering.{eq_by_cmp}
use Rattle.std.specs.FinMap as map
use Rattle.prefix_model.specs.Keys.{KeyBits, key_cmp, shorter_first, stands_in}
use Rattle.prefix_model.specs.Tables.{KeyMap, HasWidth}
use Rattle.prefix_model.specs.Positions.{PositionSet, position_set, positions_in, has_node_length}
use Rattle.prefix_model.specs.Masks.{begins_with}
use Rattle.prefix_model.proofs.Order.{key_total, key_exact, shorter_total, shorter_exact}
use Rattle.prefix_model.proofs.KeyLemmas.{stands_in-keys}
use Rattle.prefix_model.proofs.Building.{get-position_set, mark_if}
use Rattle.prefix_model.proofs.Archive.Levels.{lists_positions}
use Rattle.prefix_model.specs.TableViews.{TableView}
use Rattle.prefix_model.specs.Pruning.{is_bare, prune_steps, pruned, without_below, kept_outside}
use Rattle.prefix_map.specs.MapViews.{FitsIn}

-- what a test lets stay, and what is left where one key is taken away, was there before
cond_some : {X : Type 0} (b : Bool) (o : Option X) → is_some (cond b o None) ≡ true → is_some o ≡ true
cond_some true o h = h
cond_some false o h = absurd (cc)

cond_none : {X : Type 0} (b : Bool) (o : Option X) → is_some (cond b None o) ≡ true → is_some o ≡ true
cond_none true o h = absurd (cc)
cond_none false o h = h

module _ {V : Type 0} where
  key_removed : (m : KeyMap V) (key k : KeyBits) → is_some (map.get (map.remove m key) k) ≡ true → is_some (map.get m k) ≡ true
  key_removed m key k h = cond_none (eq_by_cmp key_cmp k key) (map.get m k) (sym (ap is_some (map.get-remove key_total m key k)) ∙ h)

  pub key_left : (m : KeyMap V) (p : KeyBits → Bool) (k : KeyBits) → is_some (map.get (map.retain_keys m p) k) ≡ true → is_some (map.get m k) ≡ true
  key_left m p k h = cond_some (p k) (map.get m k) (sym (ap is_some (map.get-retain_keys m p k (λ x e. ap p (sym (key_exact k x e))))) ∙ h)

position_removed : (kept : PositionSet) (key p : KeyBits) → map.contains_key (map.remove kept key) p ≡ true → map.contains_key kept p ≡ true
position_removed kept key p h = cond_none (eq_by_cmp shorter_first p key) (map.get kept p) (sym (ap is_some (map.get-remove shorter_total kept key p)) ∙ h)

position_left : (kept : PositionSet) (t : KeyBits → Bool) (p : KeyBits) → map.contains_key (map.retain_keys kept t) p ≡ true → map.contains_key kept p ≡ true
position_left kept t p h = cond_some (t p) (map.get kept p) (sym (ap is_some (map.get-retain_keys kept t p (λ x e. ap t (sym (shorter_exact p x e))))) ∙ h)

module _ {V : Type 0} (m : KeyMap V) where
  kept_or_removed : (kept : PositionSet) (b : Bool) (q p : KeyBits) → map.contains_key (cond b (map.remove kept q) kept) p ≡ true → map.contains_key kept p ≡ true
  kept_or_removed kept true q p h = position_removed kept q p h
  kept_or_removed kept false q p h = h

  steps_left : (kept : PositionSet) (k : KeyBits) (n d : ℕ) (p : KeyBits) → map.contains_key (prune_steps m kept k n d) p ≡ true → map.contains_key kept p ≡ true
  steps_left kept k zero d p h = h
  steps_left kept k (suc n) d p h =
      let before = prune_steps m kept k n (d + 5) in
      steps_left kept k n (d + 5) p (kept_or_removed before (is_bare (map.get m) (map.contains_key before) (take (d + 5) k)) (take (d + 5) k) p h)

  pub pruned_left : (kept : PositionSet) (k p : KeyBits) → map.contains_key (pruned m kept k) p ≡ true → map.contains_key kept p ≡ true
  pruned_left kept k p h = steps_left kept k _ 0 p h

  -- positions are fronts of keys
  pub position_fits : (w : ℕ) → HasWidth w m → (p : KeyBits) → map.contains_key (position_set m) p ≡ true → length p ≤ w
  position_fits w wide p h = of (((lists_positions (map.keys m)).members p).0 (sym (ap is_some (get-position_set m p) ∙ marked (stands_in (positions_in m) p)) ∙ h))
    where
      marked : (b : Bool) → is_some (mark_if b) ≡ b
      marked true = refl
      marked false = refl

      of : (p ≡ []) ⊎ ((has_node_length p ≡ true) × ((k : KeyBits) × (rest : KeyBits) × (stands_in (map.keys m) k ≡ true) × (k ≡ p ++ rest))) → length p ≤ w
      of (inl e) = omega (arith, ap length e)
      of (inr (l, k)) =
          let long : length k.0 ≤ w = wide k.0 (sym (stands_in-keys m k.0) ∙ k.2) in
          let a = ap length k.3 in
          let b = length-append p k.1 in omega (arith, a, b, long)

module _ {T : Type 0} (w : ℕ) where
  -- a table with fewer entries and positions
  fits_fewer : (view new : TableView T) → FitsIn w view → ((k : KeyBits) → IsSome (map.get new.entries k) → IsSome (map.get view.entries k))
      → ((p : KeyBits) → map.contains_key new.kept p ≡ true → map.contains_key view.kept p ≡ true) → FitsIn w new
  fits_fewer view new fits keys kept = record {
    entries = λ k h. fits.entries k (keys k h);
    kept = λ p h. fits.kept p (kept p h);
  }

  pub fits_removed : (view new : TableView T) (key : KeyBits) → FitsIn w view → new.entries ≡ map.remove view.entries key → new.kept ≡ view.kept → FitsIn w new
  fits_removed view new key fits entries kept = fits_fewer view new fits
      (λ k h. key_removed view.entries key k (sym (ap (λ (m : KeyMap T). is_some (map.get m k)) entries) ∙ h))
      (λ p h. sym (ap (λ (s : PositionSet). map.contains_key s p) kept) ∙ h)

  pub fits_pruned : (view new : TableView T) (key : KeyBits) → FitsIn w view → new.entries ≡ map.remove view.entries key → new.kept ≡ pruned new.entries view.kept key → FitsIn w new
  fits_pruned view new key fits entries kept = fits_fewer view new fits
      (λ k h. key_removed view.entries key k (sym (ap (λ (m : KeyMap T). is_some (map.get m k)) entries) ∙ h))
      (λ p h. pruned_left new.entries view.kept key p (sym (ap (λ (s : PositionSet). map.contains_key s p) kept) ∙ h))

  pub fits_cut : (view new : TableView T) (key : KeyBits) → FitsIn w view → new.entries ≡ without_below view.entries key → new.kept ≡ pruned new.entries (kept_outside view.kept key) key → FitsIn w new
  fits_cut view new key fits entries kept = fits_fewer view new fits
      (λ k h. key_left view.entries (λ l. not (begins_with key l)) k (sym (ap (λ (m : KeyMap T). is_some (map.get m k)) entries) ∙ h))
      (λ p h. position_left view.kept _ p (pruned_left new.entries (kept_outside view.kept key) key p (sym (ap (λ (s : PositionSet). map.contains_key s p) kept) ∙ h)))

  -- a table that keeps the positions of its entries alone
  pub fits_exact : (new : TableView T) → HasWidth w new.entries → new.kept ≡ position_set new.entries → FitsIn w new
  fits_exact new wide kept = record {
    entries = wide;
    kept = λ p h. position_fits new.entries w wide p (sym (ap (λ (s : PositionSet). map.contains_key s p) kept) ∙ h);
  }
