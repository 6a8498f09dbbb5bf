-- Steps of storing the consistent table.
use Rattle.std.proofs.Common.{◌≡◌, ℕ, suc, ◌+◌, ◌-◌, Bool, true, false, [], ◌∷◌, ◌++◌, Option, None, sym, ap, ◌∙◌, subst, append_assoc, append-nil}
use Rattle.std.specs.Prelude.{Result, Ok, Err, OnOk}
use Rattle.std.specs.Option.{option_or}
use Rattle.std.specs.FinMap as map
use Rattle.prefix_model.specs.Keys.{KeyBits}
use Rattle.prefix_model.specs.Tables.{KeyMap, Values, after}
use Rattle.prefix_model.specs.LeastTable.{entry}
use Rattle.prefix_model.specs.Building.{insert_all}
use Rattle.prefix_model.specs.Aggregates.{unless_same, consistent_entries}
use Rattle.prefix_model.proofs.Consistent.{no_entries}
use Rattle.prefix_model.specs.TableViews.{TableView, stored_from}
use Rattle.prefix_table.specs.Places.{StandsFor}
use Rattle.prefix_table.specs.declared.places.Place.{Place}
use Rattle.prefix_aggregate.specs.Lists.{at}
use Rattle.prefix_aggregate.proofs.PlacingLaws.{placed_halves}

pub on_ok : {A E : Type 0} {P Q : Type 0} (r : Result A E) → OnOk r P → (P → Q) → OnOk r Q
on_ok (Ok a) h f = f h
on_ok (Err e) h f = tt

module _ {T : Type 0} (eq : T → T → Bool) (view : TableView T) (s : KeyBits) (v : Option T) where
  -- nothing is stored there
  pub stored_none : (n : ℕ) (m : KeyMap T) → ((q : KeyBits) → stored_from view s q ≡ None) → m ≡ insert_all m (at s (consistent_entries eq n (stored_from view s) v))
  stored_none n m none = sym (ap (λ es. insert_all m (at s es)) (no_entries eq n (stored_from view s) v none))

  here : stored_from view s [] ≡ map.get view.entries s
  here = ap (map.get view.entries) (append-nil s)

  -- an address
  pub stored_last : (n : ℕ) (m m0 : KeyMap T) (x : Option T) → n ≡ 0 → x ≡ unless_same eq (map.get view.entries s) v → m0 ≡ insert_all m (at s (entry x))
      → m0 ≡ insert_all m (at s (consistent_entries eq n (stored_from view s) v))
  stored_last n m m0 x z ex e =
      e ∙ ap (λ y. insert_all m (at s (entry y))) (ex ∙ ap (λ y. unless_same eq y v) (sym here))
      ∙ ap (λ k. insert_all m (at s (consistent_entries eq k (stored_from view s) v))) (sym z)

  behind : (b : Bool) → stored_from view (s ++ b ∷ []) ≡ after b (stored_from view s)
  behind b = λ i q. map.get view.entries (append_assoc s (b ∷ []) q i)

  -- a key and its halves
  pub stored_steps : (n l : ℕ) (k0 k1 : KeyBits) (x u : Option T) (m m0 m1 m2 : KeyMap T) → n ≡ suc l → k0 ≡ s ++ false ∷ [] → k1 ≡ s ++ true ∷ []
      → x ≡ unless_same eq (map.get view.entries s) v → u ≡ option_or (map.get view.entries s) v
      → m0 ≡ insert_all m (at s (entry x)) → m1 ≡ insert_all m0 (at k0 (consistent_entries eq l (stored_from view k0) u)) → m2 ≡ insert_all m1 (at k1 (consistent_entries eq l (stored_from view k1) u))
      → m2 ≡ insert_all m (at s (consistent_entries eq n (stored_from view s) v))
  stored_steps n l k0 k1 x u m m0 m1 m2 e e0 e1 ex eu f0 f1 f2 =
      let f : Values T = stored_from view s in
      let hx : x ≡ unless_same eq (f []) v = ex ∙ ap (λ y. unless_same eq y v) (sym here) in
      let hu : u ≡ option_or (f []) v = eu ∙ ap (λ y. option_or y v) (sym here) in
      f2
      ∙ (λ i. insert_all (f1 i) (at (e1 i) (consistent_entries eq l (stored_from view (e1 i)) (hu i))))
      ∙ (λ i. insert_all (insert_all (f0 i) (at (e0 i) (consistent_entries eq l (stored_from view (e0 i)) (hu i)))) (at (s ++ true ∷ []) (consistent_entries eq l (behind true i) (option_or (f []) v))))
      ∙ (λ i. insert_all (insert_all (insert_all m (at s (entry (hx i)))) (at (s ++ false ∷ []) (consistent_entries eq l (behind false i) (option_or (f []) v)))) (at (s ++ true ∷ []) (consistent_entries eq l (after true f) (option_or (f []) v))))
      ∙ placed_halves s m (unless_same eq (f []) v) (consistent_entries eq l (after false f) (option_or (f []) v)) (consistent_entries eq l (after true f) (option_or (f []) v))
      ∙ ap (λ k. insert_all m (at s (consistent_entries eq k f v))) (sym e)

-- the place of a half, by its own key
pub half_stands : {T : Type 0} (view : TableView T) (r : Option Place) (key s k : KeyBits) (b : Bool) → key ≡ s → k ≡ s ++ b ∷ [] → StandsFor view r (key ++ b ∷ []) → StandsFor view r k
half_stands view r key s k b e ek h = subst (λ q. StandsFor view r q) (ap (λ q. q ++ b ∷ []) e ∙ sym ek) h
