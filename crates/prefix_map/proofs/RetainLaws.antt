-- What was asked of each entry, and what is left of a map.
use Rattle.std.proofs.Common.{◌≡◌, ℕ, ◌-◌, ◌≤◌, Bool, true, false, ◌||◌, List, [], ◌∷◌, length, map, replicate, take, sym, ap, ◌∙◌, subst, arith, length-append}
use Rattle.std.specs.Borrow.{Bor}
use Rattle.std.specs.Fn.{Called}
use Rattle.std.specs.List.{items_where_true, list_any}
use Rattle.std.specs.List.Retain.{IsFiltered, ReturnsInTurn}
use Rattle.std.specs.FinMap as map_of
use Rattle.std.specs.Ordering.{eq_by_cmp}
use denote.Param.Members.{Mut}
use Rattle.prefix_model.specs.Keys.{KeyBits, key_cmp}
use Rattle.prefix_model.specs.Tables.{KeyMap}
use Rattle.prefix_model.specs.Positions.{position_set}
use Rattle.prefix_model.proofs.Fronts.{take_front}
use Rattle.prefix_model.specs.TableViews.{TableView, key_of}
use Rattle.prefix_table.specs.Retains.{IsAsked}
use Rattle.prefix_table.specs.declared.prefixes.PrefixKey.{Ghosts}
use Rattle.prefix_map.specs.Items.{IsItem}
use Rattle.prefix_map.specs.MapViews.{FitsIn}
use Rattle.prefix_map.specs.Retains.{IsEntryAsked, IsMemberAsked}
use Rattle.prefix_map.proofs.Fits.{fits_exact}

-- ---- what was asked

-- calls of an outer function in turn are calls of an inner one
module _ {S F X : Type 0} (R : S → X → Bool → S → Type 0) (Q : F → X → Bool → F → Type 0) (inner : S → F) (tells : (s : S) (x : X) (b : Bool) (t : S) → R s x b t → Q (inner s) x b (inner t)) where
  in_turn : (s : S) (bs : List Bool) (xs : List X) (t : S) → ReturnsInTurn R s bs xs t → ReturnsInTurn Q (inner s) bs xs (inner t)
  in_turn s [] xs t e = ap inner e
  in_turn s (b ∷ bs) [] t e = absurd e
  in_turn s (b ∷ bs) (x ∷ xs) t h = let (j, step, more) = h in (inner j, tells s x b j step, in_turn j bs xs t more)

  pub filtered_by : (s : S) (xs ys : List X) → IsFiltered R s xs ys → IsFiltered Q (inner s) xs ys
  filtered_by s xs ys h = let (bs, t, count, asked, left) = h in (bs, inner t, count, in_turn s bs xs t asked, left)

module _ {S F R P T : Type 0} (bits : R → KeyBits) (w : ℕ) (length_law : (k : R) → length (bits k) ≡ w) (g : Mut S (R × (ℕ × (Bor T × Unit {0}))) Bool) (p : Ghosts P) (f : Mut F (Bor P × (Bor T × Unit {0})) Bool) (inner : S → F) where
  -- a call at a key is one at its prefix
  abbrev pub AsksPrefix : Type 0
  AsksPrefix = (s : S) (key : R) (len : ℕ) (value : Bor T) (r : Bool) (t : S) → Called g s (key, (len, (value, tt))) r t
      → (prefix : Bor P) × (len ≤ w → IsItem w p prefix.now (key_of (bits key) len)) × Called f (inner s) (prefix, (value, tt)) r (inner t)

  pub entry_asked : AsksPrefix → (s : S) (e : KeyBits × T) (r : Bool) (t : S) → IsAsked bits w g s e r t → IsEntryAsked w p f (inner s) e r (inner t)
  entry_asked says s e r t asked =
      let (prefix, item, called) = says s asked.key (length e.0) asked.shown r t asked.called in
      let zeros : List Bool = replicate (w - length e.0) false in
      let fits : length e.0 ≤ w = let size = ap length asked.names in omega (arith, size, length_law asked.key, length-append e.0 zeros) in
      record {
        prefix = prefix;
        item = subst (IsItem w p prefix.now) (ap (take (length e.0)) asked.names ∙ take_front e.0 zeros) (item fits);
        shown = asked.shown;
        shows = asked.shows;
        called = called;
      }

  pub entries_asked : AsksPrefix → (s : S) (xs ys : List (KeyBits × T)) → IsFiltered (IsAsked bits w g) s xs ys → IsFiltered (IsEntryAsked w p f) (inner s) xs ys
  entries_asked says = filtered_by (IsAsked bits w g) (IsEntryAsked w p f) inner (entry_asked says)

module _ {S F P : Type 0} (w : ℕ) (g : Ghosts P) (outer : Mut S (Bor P × (Bor (Unit {0}) × Unit {0})) Bool) (f : Mut F (Bor P × Unit {0}) Bool) (inner : S → F) where
  pub members_asked : ((s : S) (prefix : Bor P) (value : Bor (Unit {0})) (r : Bool) (t : S) → Called outer s (prefix, (value, tt)) r t → Called f (inner s) (prefix, tt) r (inner t))
      → (s : S) (xs ys : List (KeyBits × Unit {0})) → IsFiltered (IsEntryAsked w g outer) s xs ys → IsFiltered (IsMemberAsked w g f) (inner s) xs ys
  members_asked says = filtered_by (IsEntryAsked w g outer) (IsMemberAsked w g f) inner
      (λ s e r t asked. record { prefix = asked.prefix; item = asked.item; called = says s asked.prefix asked.shown r t asked.called })

-- ---- what is left

or_left : (a b c : Bool) → (b ≡ true → c ≡ true) → (a || b) ≡ true → (a || c) ≡ true
or_left true b c h e = e
or_left false b c h e = h e

or_right : (a b : Bool) → b ≡ true → (a || b) ≡ true
or_right true b e = cc
or_right false b e = e

module _ {T : Type 0} where
  any_left : (t : KeyBits → Bool) (bs : List Bool) (xs : List (KeyBits × T)) → list_any t (map (λ e. e.0) (items_where_true bs xs)) ≡ true → list_any t (map (λ e. e.0) xs) ≡ true
  any_left t [] xs h = absurd (cc)
  any_left t (b ∷ bs) [] h = absurd (cc)
  any_left t (true ∷ bs) (x ∷ xs) h = or_left (t x.0) _ _ (any_left t bs xs) h
  any_left t (false ∷ bs) (x ∷ xs) h = or_right (t x.0) _ (any_left t bs xs h)

  left_among : {F : Type 0} (Q : F → KeyBits × T → Bool → F → Type 0) (s : F) (old new : KeyMap T) → IsFiltered Q s (map_of.entries old) (map_of.entries new)
      → (k : KeyBits) → map_of.contains_key new k ≡ true → map_of.contains_key old k ≡ true
  left_among Q s old new h k held =
      let (bs, t, count, asked, left) = h in
      let test = eq_by_cmp key_cmp k in
      let among : list_any test (map (λ e. e.0) (items_where_true bs (map_of.entries old))) ≡ true = sym (ap (λ es. list_any test (map (λ e. e.0) es)) left) ∙ sym (map_of.contains_key-keys new k) ∙ held in
      map_of.contains_key-keys old k ∙ any_left test bs (map_of.entries old) among

  pub fits_retained : {F : Type 0} (Q : F → KeyBits × T → Bool → F → Type 0) (s : F) (w : ℕ) (old new : TableView T) → FitsIn w old
      → IsFiltered Q s (map_of.entries old.entries) (map_of.entries new.entries) → new.kept ≡ position_set new.entries → FitsIn w new
  fits_retained Q s w old new fits h kept = fits_exact w new (λ k held. fits.entries k (left_among Q s old.entries new.entries h k held)) kept
