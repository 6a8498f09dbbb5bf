-- The widths of tables and of what is stored in them.
use Rattle.std.specs.Prelude.{is_some, Result, Ok, Err, OnOk, OnErr}
use Rattle.std.specs.Ordering.{eq_by_cmp}
use Rattle.std.specs.FinMap as map
use Rattle.std.specs.List.{list_any}
use Rattle.std.proofs.Common.{◌≡◌, ℕ, ◌≤◌, Bool, true, false, cond, [], length, Some, None, refl, sym, ap, ◌∙◌, subst, arith, length-append}
use Rattle.prefix_model.specs.Keys.{KeyBits, key_cmp, shorter_first, prefixes}
use Rattle.prefix_model.specs.Tables.{KeyMap, HasWidth}
use Rattle.prefix_model.specs.Positions.{root_alone, with_positions, positions_of_key, has_node_length}
use Rattle.prefix_model.specs.TableViews.{TableView, IsSameTable}
use Rattle.prefix_model.proofs.Order.{key_total, key_exact, shorter_total, shorter_exact}
use Rattle.prefix_model.proofs.KeyLemmas.{same_key-same, tests_same, eq_to_equal, filter_out, prefixes_out}
use Rattle.prefix_model.proofs.Building.{get_with, tie_any}
use Rattle.prefix_model.proofs.StoredValues.{insert_twice}
use Rattle.prefix_table.specs.TableLends.{with_value}
use Rattle.prefix_map.specs.MapViews.{MapView, FitsIn, map_view, with_entry, with_value as map_with_value}

module _ {T : Type 0} where
  pub fits_empty : (w : ℕ) (view : TableView T) → view.entries ≡ map.empty → view.kept ≡ root_alone → FitsIn w view
  fits_empty w view entries kept = record {
    entries = λ k some. let none : map.get view.entries k ≡ None = ap (λ m. map.get m k) entries ∙ map.get-empty key_cmp k in let is = ap is_some none in absurd (cc);
    kept = λ p held.
        let at = sym (ap (λ m. map.contains_key m p) kept) ∙ held in
        root_only p (eq_by_cmp shorter_first p []) refl (sym (ap is_some (map.get-insert shorter_total map.empty [] tt p ∙ ap (cond (eq_by_cmp shorter_first p []) (Some tt)) (map.get-empty shorter_first p))) ∙ at);
  }
    where
      root_only : (p : KeyBits) (b : Bool) → eq_by_cmp shorter_first p [] ≡ b → is_some {T = Unit {0}} (cond b (Some tt) None) ≡ true → length p ≤ w
      root_only p true e h = let same = same_key-same p [] (sym (tests_same shorter_first shorter_total shorter_exact p []) ∙ e) in subst (λ q. length q ≤ w) (sym same) (omega arith)
      root_only p false e h = absurd (cc)

  key_held : (m : KeyMap T) (key : KeyBits) (v : T) (w : ℕ) → HasWidth w m → length key ≤ w → HasWidth w (map.insert m key v)
  key_held m key v w width fits k some =
      of (eq_by_cmp key_cmp k key) refl (sym (ap is_some (map.get-insert key_total m key v k)) ∙ some)
    where
      of : (b : Bool) → eq_by_cmp key_cmp k key ≡ b → is_some (cond b (Some v) (map.get m k)) ≡ true → length k ≤ w
      of true e h = let same = key_exact k key (eq_to_equal (key_cmp k key) e) in subst (λ q. length q ≤ w) (sym same) fits
      of false e h = width k h

  -- a stored value keeps the widths
  pub fits_stored : (w : ℕ) (view new : TableView T) (key : KeyBits) (v : T) → FitsIn w view → length key ≤ w → new.entries ≡ map.insert view.entries key v → new.kept ≡ with_positions view.kept key → FitsIn w new
  fits_stored w view new key v fits short entries kept = record {
    entries = subst (HasWidth w) (sym entries) (key_held view.entries key v w fits.entries short);
    kept = λ p held.
        let at = sym (ap (λ m. map.contains_key m p) kept) ∙ held in
        of p (list_any (eq_by_cmp shorter_first p) (positions_of_key key)) refl (sym (ap is_some (get_with view.kept (positions_of_key key) p)) ∙ at);
  }
    where
      of : (p : KeyBits) (b : Bool) → list_any (eq_by_cmp shorter_first p) (positions_of_key key) ≡ b → is_some {T = Unit {0}} (cond b (Some tt) (map.get view.kept p)) ≡ true → length p ≤ w
      of p true e h =
          let among = sym (tie_any p (positions_of_key key)) ∙ e in
          let front = prefixes_out key p (filter_out has_node_length (prefixes key) p among).1 in
          let size = ap length front.1 in
          omega (arith, size, short, length-append p front.0)
      of p false e h = fits.kept p h

  pub fits_same : (w : ℕ) (view new : TableView T) → FitsIn w view → IsSameTable view new → FitsIn w new
  fits_same w view new fits same = record {
    entries = subst (HasWidth w) (sym same.entries) fits.entries;
    kept = λ p held. fits.kept p (sym (ap (λ m. map.contains_key m p) same.kept) ∙ held);
  }

  pub fits_written : (w : ℕ) (view : TableView T) (key : KeyBits) (v : T) → FitsIn w view → length key ≤ w → FitsIn w (with_value view key v)
  fits_written w view key v fits short = record { entries = key_held view.entries key v w fits.entries short; kept = fits.kept }

  pub same_view : (old new : TableView T) → IsSameTable old new → map_view new ≡ map_view old
  same_view old new same = λ i. record { entries = same.entries i; kept = same.kept i }

  pub stored_view : (old new : TableView T) (key : KeyBits) (v : T) → new.entries ≡ map.insert old.entries key v → new.kept ≡ with_positions old.kept key → map_view new ≡ with_entry (map_view old) key v
  stored_view old new key v entries kept = λ i. record { entries = entries i; kept = kept i }

  -- after an insertion, whatever it answered
  pub fits_after : {A E : Type 0} (w : ℕ) (view new : TableView T) (key : KeyBits) (v : T) (r : Result A E) → FitsIn w view → length key ≤ w
      → OnOk r (new.entries ≡ map.insert view.entries key v) → OnOk r (new.kept ≡ with_positions view.kept key) → OnErr r (IsSameTable view new) → FitsIn w new
  fits_after w view new key v (Ok x) fits short entries kept same = fits_stored w view new key v fits short entries kept
  fits_after w view new key v (Err x) fits short entries kept same = fits_same w view new fits same

  -- a new entry, whose value is then written
  pub written_twice : (m n : MapView T) (key : KeyBits) (v x : T) → n ≡ with_entry m key v → map_with_value n key x ≡ with_entry m key x
  written_twice m n key v x e = ap (λ k. map_with_value k key x) e ∙ (λ i. record { entries = insert_twice m.entries key v x i; kept = with_positions m.kept key })
