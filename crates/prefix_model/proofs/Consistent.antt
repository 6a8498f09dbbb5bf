-- An entry that repeats what stands above it tells nothing.
use Rattle.std.proofs.Common.{◌≡◌, ℕ, zero, suc, ◌<◌, Bool, true, false, cond, not, T, [], ◌∷◌, length, refl, sym, ap, ◌∙◌, subst, arith, Option, Some, None}
use Rattle.std.specs.Prelude.{is_some}
use mathlib.Core.Bool.{true≢false}
use Rattle.std.specs.Option.{option_or, option_eq}
use Rattle.std.specs.FinMap as map
use Rattle.std.specs.FinMap.{find, is_sorted}
use Rattle.prefix_model.specs.Keys.{KeyBits, key_cmp}
use Rattle.prefix_model.specs.Tables.{KeyMap, Values, after, answer_under, HasWidth}
use Rattle.prefix_model.specs.LeastTable.{entry, with_halves}
use Rattle.prefix_model.specs.Building.{insert_all}
use Rattle.prefix_model.proofs.Entries.{held, held-entry, held-entry_cons, held-with_halves_nil, held-with_halves_false, held-with_halves_true}
use Rattle.prefix_model.proofs.SortedEntries.{sorted_with_halves, sorted_entry}
use Rattle.prefix_model.proofs.Building.{AllHeld, sorted_held, insert_all-builds}
use Rattle.prefix_model.specs.Aggregates.{above_under, above, consistent_set, consistent_table, unless_same, consistent_entries}
use Rattle.prefix_model.specs.AggregateLaws.{ConsistentKeepsAnswers, ConsistentIsStable, SetIsStable, TellsEqual}
use Rattle.prefix_model.proofs.Order.{key_total, key_exact}
use Rattle.prefix_model.proofs.Fewest.Serving.{same_values}

module _ {V : Type 0} {eq : V → V → Bool} (exact : TellsEqual eq) where
  repeats : (x v : Option V) → option_eq eq x v ≡ true → x ≡ v
  repeats None None e = refl
  repeats None (Some y) e = absurd (true≢false (sym e))
  repeats (Some x) None e = absurd (true≢false (sym e))
  repeats (Some x) (Some y) e = ap Some (exact x y e)

  -- what is kept of f, where v stands above
  abbrev kept : Option V → Values V → Values V
  kept v f k = cond (not (option_eq eq (f k) (above_under v f k))) (f k) None

  or_itself : (x : Option V) → x ≡ option_or x x
  or_itself None = refl
  or_itself (Some x) = refl

  kept_root : (x v : Option V) → option_or (cond (not (option_eq eq x v)) x None) v ≡ option_or x v
  kept_root x v =
      elim (option_eq eq x v) as (λ t. option_eq eq x v ≡ t → option_or (cond (not t) x None) v ≡ option_or x v) [
        | true ↦ λ e. or_itself v ∙ ap (λ y. option_or y v) (sym (repeats x v e))
        | false ↦ λ e. refl
      ] refl

  kept_answers : (k : KeyBits) (v : Option V) (f : Values V) → answer_under v (kept v f) k ≡ answer_under v f k
  kept_answers [] v f = kept_root (f []) v
  kept_answers (b ∷ k) v f = ap (λ y. answer_under y (after b (kept v f)) k) (kept_root (f []) v) ∙ kept_answers k (option_or (f []) v) (after b f)

  kept_above : (k : KeyBits) (v : Option V) (f : Values V) → above_under v (kept v f) k ≡ above_under v f k
  kept_above [] v f = refl
  kept_above (b ∷ k) v f = ap (λ y. above_under y (after b (kept v f)) k) (kept_root (f []) v) ∙ kept_above k (option_or (f []) v) (after b f)

  -- what the consistent table holds
  pub get-consistent : (m : KeyMap V) (q : KeyBits) → map.get (consistent_table eq m) q ≡ kept None (map.get m) q
  get-consistent m q = map.get-retain_keys m _ q (λ x e. ap (λ y. not (option_eq eq (map.get m y) (above_under None (map.get m) y))) (sym (key_exact q x e)))

  pub consistent_keeps_answers : ConsistentKeepsAnswers eq
  consistent_keeps_answers m k = same_values (map.get (consistent_table eq m)) (kept None (map.get m)) (get-consistent m) None k ∙ kept_answers k None (map.get m)

  above_consistent : (m : KeyMap V) (q : KeyBits) → above (consistent_table eq m) q ≡ above m q
  above_consistent m q = (λ i. above_under None (λ k. get-consistent m k i) q) ∙ kept_above q None (map.get m)

  kept_twice : (x v : Option V) → cond (not (option_eq eq (cond (not (option_eq eq x v)) x None) v)) (cond (not (option_eq eq x v)) x None) None ≡ cond (not (option_eq eq x v)) x None
  kept_twice x v = elim (option_eq eq x v) as (λ t. option_eq eq x v ≡ t → cond (not (option_eq eq (cond (not t) x None) v)) (cond (not t) x None) None ≡ cond (not t) x None) [
    | true ↦ λ e. none_either (not (option_eq eq None v))
    | false ↦ λ e. ap (λ t. cond (not t) x None) e
  ] refl
    where
      none_either : (t : Bool) → cond {A = Option V} t None None ≡ None
      none_either true = refl
      none_either false = refl

  pub consistent_is_stable : ConsistentIsStable eq
  consistent_is_stable m = map.same_map key_total key_exact _ _ (λ q.
      get-consistent (consistent_table eq m) q
      ∙ (λ i. cond (not (option_eq eq (get-consistent m q i) (above_consistent m q i))) (get-consistent m q i) None)
      ∙ kept_twice (map.get m q) (above m q)
      ∙ sym (get-consistent m q))

module _ {V : Type 0} where
  -- what is left of f with nothing above
  abbrev alone : Values V → Values V
  alone f k = cond (not (is_some (above_under None f k))) (f k) None

  pub get-consistent_set : (m : KeyMap V) (q : KeyBits) → map.get (consistent_set m) q ≡ alone (map.get m) q
  get-consistent_set m q = map.get-retain_keys m _ q (λ x e. ap (λ y. not (is_some (above_under None (map.get m) y))) (sym (key_exact q x e)))

  or_some : (x : Option V) (y : V) → is_some (option_or x (Some y)) ≡ true
  or_some None y = refl
  or_some (Some x) y = refl

  some_above : (k : KeyBits) (v : Option V) (f : Values V) → is_some v ≡ true → is_some (above_under v f k) ≡ true
  some_above [] v f e = e
  some_above (b ∷ k) None f e = absurd (true≢false (sym e))
  some_above (b ∷ k) (Some x) f e = some_above k (option_or (f []) (Some x)) (after b f) (or_some (f []) x)

  -- with fewer values there is no more above
  less_above : (k : KeyBits) (f g : Values V) → ((q : KeyBits) → f q ≡ None → g q ≡ None) → is_some (above_under None f k) ≡ false → is_some (above_under None g k) ≡ false
  less_above [] f g less e = e
  less_above (b ∷ k) f g less e =
      elim (f []) as (λ x. f [] ≡ x → is_some (above_under (option_or (g []) None) (after b g) k) ≡ false) [
        | None ↦ λ z.
            ap (λ y. is_some (above_under (option_or y None) (after b g) k)) (less [] z)
            ∙ less_above k (after b f) (after b g) (λ q. less (b ∷ q)) (ap (λ y. is_some (above_under (option_or y None) (after b f) k)) (sym z) ∙ e)
        | Some x ↦ λ z. absurd (true≢false (sym (some_above k (Some x) (after b f) refl) ∙ ap (λ y. is_some (above_under (option_or y None) (after b f) k)) (sym z) ∙ e))
      ] refl

  none_alone : (f : Values V) (q : KeyBits) → f q ≡ None → alone f q ≡ None
  none_alone f q e = ap (λ y. cond (not (is_some (above_under None f q))) y None) e ∙ none_either (not (is_some (above_under None f q)))
    where
      none_either : (t : Bool) → cond {A = Option V} t None None ≡ None
      none_either true = refl
      none_either false = refl

  alone_twice : (f : Values V) (q : KeyBits) → alone (alone f) q ≡ alone f q
  alone_twice f q = elim (is_some (above_under None f q)) as (λ t. is_some (above_under None f q) ≡ t → cond (not (is_some (above_under None (alone f) q))) (cond (not t) (f q) None) None ≡ cond (not t) (f q) None) [
    | true ↦ λ e. none_either (not (is_some (above_under None (alone f) q)))
    | false ↦ λ e. ap (λ t. cond (not t) (f q) None) (less_above q f (alone f) (none_alone f) e)
  ] refl
    where
      none_either : (t : Bool) → cond {A = Option V} t None None ≡ None
      none_either true = refl
      none_either false = refl

  pub set_is_stable : SetIsStable V
  set_is_stable m = map.same_map key_total key_exact _ _ (λ q.
      get-consistent_set (consistent_set m) q
      ∙ (λ i. alone (λ k. get-consistent_set m k i) q)
      ∙ alone_twice (map.get m) q
      ∙ sym (get-consistent_set m q))

-- ---- entry by entry

module _ {V : Type 0} (eq : V → V → Bool) where
  none_kept : (x v : Option V) → x ≡ None → unless_same eq x v ≡ None
  none_kept x v e = ap (λ y. unless_same eq y v) e ∙ none_either (not (option_eq eq None v))
    where
      none_either : (t : Bool) → cond {A = Option V} t None None ≡ None
      none_either true = refl
      none_either false = refl

  entry_none : (x : Option V) → x ≡ None → entry x ≡ []
  entry_none x e = ap entry e

  -- where nothing is stored there is no entry
  pub no_entries : (n : ℕ) (f : Values V) (v : Option V) → ((k : KeyBits) → f k ≡ None) → consistent_entries eq n f v ≡ []
  no_entries zero f v h = ap entry (none_kept (f []) v (h []))
  no_entries (suc n) f v h =
      λ i. with_halves (none_kept (f []) v (h []) i) (no_entries n (after false f) (option_or (f []) v) (λ k. h (false ∷ k)) i) (no_entries n (after true f) (option_or (f []) v) (λ k. h (true ∷ k)) i)

  sorted_entries : (n : ℕ) (f : Values V) (v : Option V) → T (is_sorted key_cmp (consistent_entries eq n f v))
  sorted_entries zero f v = sorted_entry (unless_same eq (f []) v)
  sorted_entries (suc n) f v = sorted_with_halves (unless_same eq (f []) v) _ _ (sorted_entries n (after false f) (option_or (f []) v)) (sorted_entries n (after true f) (option_or (f []) v))

  -- what they hold
  entries_hold : (n : ℕ) (f : Values V) (v : Option V) → ((k : KeyBits) → n < length k → f k ≡ None) → (q : KeyBits) → held (consistent_entries eq n f v) q ≡ unless_same eq (f q) (above_under v f q)
  entries_hold zero f v short [] = held-entry (unless_same eq (f []) v)
  entries_hold zero f v short (b ∷ q) = held-entry_cons (unless_same eq (f []) v) b q ∙ sym (none_kept (f (b ∷ q)) _ (short (b ∷ q) (omega arith)))
  entries_hold (suc n) f v short [] = held-with_halves_nil (unless_same eq (f []) v) (consistent_entries eq n (after false f) (option_or (f []) v)) (consistent_entries eq n (after true f) (option_or (f []) v))
  entries_hold (suc n) f v short (false ∷ q) =
      held-with_halves_false (unless_same eq (f []) v) (consistent_entries eq n (after false f) (option_or (f []) v)) (consistent_entries eq n (after true f) (option_or (f []) v)) q
      ∙ entries_hold n (after false f) (option_or (f []) v) (λ k l. short (false ∷ k) (omega arith)) q
  entries_hold (suc n) f v short (true ∷ q) =
      held-with_halves_true (unless_same eq (f []) v) (consistent_entries eq n (after false f) (option_or (f []) v)) (consistent_entries eq n (after true f) (option_or (f []) v)) q
      ∙ entries_hold n (after true f) (option_or (f []) v) (λ k l. short (true ∷ k) (omega arith)) q

  too_long : (w : ℕ) (m : KeyMap V) → HasWidth w m → (k : KeyBits) → w < length k → map.get m k ≡ None
  too_long w m width k l =
      elim (map.get m k) as (λ x. map.get m k ≡ x → x ≡ None) [
        | None ↦ λ e. refl
        | Some y ↦ λ e. absurd (let h = width k (ap is_some e) in omega (arith, h))
      ] refl

  -- they build the consistent table
  pub entries_build : (w : ℕ) (m : KeyMap V) → HasWidth w m → insert_all map.empty (consistent_entries eq w (map.get m) None) ≡ consistent_table eq m
  entries_build w m width =
      let es = consistent_entries eq w (map.get m) None in
      let holds : (q : KeyBits) → find key_cmp q es ≡ map.get (consistent_table eq m) q =
      λ q. entries_hold w (map.get m) None (too_long w m width) q ∙ sym (map.get-retain_keys m _ q (λ x e. ap (λ y. not (option_eq eq (map.get m y) (above_under None (map.get m) y))) (sym (key_exact q x e)))) in
      insert_all-builds (consistent_table eq m) es (subst (λ (f : Values V). AllHeld f es) (λ i q. holds q i) (sorted_held es (sorted_entries w (map.get m) None))) holds

-- of sets, the consistent table is the consistent set
pub consistent_of_set : (eq : Unit {0} → Unit {0} → Bool) → eq tt tt ≡ true → (m : KeyMap (Unit {0})) → consistent_table eq m ≡ consistent_set m
consistent_of_set eq same m = map.same_map key_total key_exact _ _ (λ q.
    map.get-retain_keys m _ q (λ x e. ap (λ y. not (option_eq eq (map.get m y) (above_under None (map.get m) y))) (sym (key_exact q x e)))
    ∙ one (map.get m q) (above m q)
    ∙ sym (get-consistent_set m q))
  where
    one : (x v : Option (Unit {0})) → cond (not (option_eq eq x v)) x None ≡ cond (not (is_some v)) x None
    one None None = refl
    one None (Some y) = refl
    one (Some x) None = refl
    one (Some x) (Some y) = ap (λ t. cond (not t) (Some x) None) same
