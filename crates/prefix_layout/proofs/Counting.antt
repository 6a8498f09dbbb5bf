-- The positions of the entries, counted level by level.
use Rattle.std.proofs.Common.{◌≡◌, ℕ, zero, suc, ◌+◌, ◌-◌, ◌/◌, ◌<◌, ◌≤◌, Bool, true, false, cond, List, [], ◌∷◌, ◌++◌, length, map, take, filter, refl, sym, ap, ◌∙◌, subst, arith, Some, length-append}
use Rattle.std.specs.Prelude.{◌||◌, min}
use Rattle.std.specs.List.{flat_map, AllByRecursion}
use Rattle.std.specs.FinMap as finite
use Rattle.std.proofs.lemmas.List.{append-nil}
use Rattle.std.proofs.lemmas.List.Concat.{flat_map-append}
use Rattle.prefix_model.specs.Keys.{KeyBits, same_key, stands_in, low_bits}
use Rattle.prefix_model.specs.Positions.{positions_in, child_places}
use Rattle.prefix_model.specs.Reading.{ComesOut, positions_below}
use Rattle.prefix_model.proofs.Archive.Levels.{positions_come_out, five_bits}
use Rattle.prefix_model.proofs.Archive.Ordered.{OfLength}
use Rattle.prefix_model.proofs.KeyLemmas.{or_true, same_key-itself}
use Rattle.prefix_model.specs.TableViews.{TableView, HoldsPositions, position_at}
use Rattle.prefix_layout.specs.Writing.{is_written, positions_from}
use Rattle.prefix_layout.proofs.Below.{written_short, kept_step, skip_step, all_children, position_is}

all_from : (P : KeyBits → Type 0) (ps : List KeyBits) → ((q : KeyBits) → stands_in ps q ≡ true → P q) → AllByRecursion P ps
all_from P [] h = tt
all_from P (p ∷ ps) h = (h p (ap (λ b. b || stands_in ps p) (same_key-itself p)), all_from P ps (λ q s. h q (ap (λ b. same_key q p || b) s ∙ or_true (same_key q p))))

module _ {T : Type 0} (view : TableView T) where
  abbrev below : KeyBits → List KeyBits
  below = positions_below (finite.keys view.entries)

  pub from_none : (n : ℕ) (p : KeyBits) → n ≡ 0 → positions_from view n p ≡ []
  unfolding positions_from
  from_none zero p e = refl
  from_none (suc n) p e = absurd (omega arith)

  pub from_level : (n k : ℕ) (p : KeyBits) → n ≡ suc k → positions_from view n p ≡ p ∷ flat_map (positions_from view k) (below p)
  unfolding positions_from
  from_level zero k p e = absurd (omega arith)
  from_level (suc n) k p e = let same : n ≡ k = omega arith in ap (λ j. p ∷ flat_map (positions_from view j) (below p)) same

  -- how many levels of nodes there are from q on
  abbrev levels_from : KeyBits → ℕ
  levels_from q = (130 - length q) / 5

  from_here : KeyBits → List KeyBits
  from_here q = positions_from view (levels_from q) q

  children_long : (q : KeyBits) → AllByRecursion (λ c. length c ≡ length q + 5) (below q)
  children_long q = go child_places five_bits
    where
      go : (cs : List KeyBits) → OfLength 5 cs → AllByRecursion (λ c. length c ≡ length q + 5) (filter (is_written view) (map (λ c. q ++ c) cs))
      go [] h = tt
      go (c ∷ cs) h = one (is_written view (q ++ c)) (length-append q c ∙ ap (λ n. length q + n) h.0) (go cs h.1)
        where
          one : (b : Bool) → length (q ++ c) ≡ length q + 5 → AllByRecursion (λ c. length c ≡ length q + 5) (filter (is_written view) (map (λ c. q ++ c) cs)) → AllByRecursion (λ c. length c ≡ length q + 5) (cond b ((q ++ c) ∷ filter (is_written view) (map (λ c. q ++ c) cs)) (filter (is_written view) (map (λ c. q ++ c) cs)))
          one true l r = (l, r)
          one false l r = r

  next_level : (q : KeyBits) (k : ℕ) → length q ≤ 125 → levels_from q ≡ suc k → (cs : List KeyBits) → AllByRecursion (λ c. length c ≡ length q + 5) cs → flat_map (positions_from view k) cs ≡ flat_map from_here cs
  unfolding from_here
  next_level q k l e [] h = refl
  next_level q k l e (c ∷ cs) h =
      let same : k ≡ levels_from c = let d = h.0 in omega arith in
      λ i. positions_from view (same i) c ++ next_level q k l e cs h.1 i

  from_step : (q : KeyBits) → length q ≤ 125 → from_here q ≡ q ∷ flat_map from_here (below q)
  unfolding from_here
  from_step q l =
      let k = (125 - length q) / 5 in
      let e : levels_from q ≡ suc k = omega arith in
      from_level (levels_from q) k q e ∙ ap (λ r. q ∷ r) (next_level q k l e (below q) (children_long q))

  counted : (qs ps : List KeyBits) → AllByRecursion (λ p. length p ≤ 125) ps → ComesOut below qs ps → length (flat_map from_here qs) ≡ length ps
  counted [] [] h o = refl
  counted [] (p ∷ ps) h o = absurd o
  counted (q ∷ qs) [] h o = absurd o
  counted (q ∷ qs) (p ∷ ps) h o =
      let ih = counted (qs ++ below q) ps h.1 o.1 in
      let both : flat_map from_here (qs ++ below q) ≡ flat_map from_here qs ++ flat_map from_here (below q) = flat_map-append from_here qs (below q) in
      let step : from_here q ≡ q ∷ flat_map from_here (below q) = from_step q (subst (λ k. length k ≤ 125) (sym o.0) h.0) in
      let a = length-append (from_here q) (flat_map from_here qs) in
      let b = length-append (flat_map from_here qs) (flat_map from_here (below q)) in
      let c = ap length both in
      let d = ap length step in
      omega arith

  -- from the root on, all positions are counted
  pub count_all : HoldsPositions view → length (positions_from view 26 []) ≡ length (positions_in view.entries)
  unfolding from_here
  count_all holds =
      ap length (sym (append-nil (positions_from view 26 [])))
      ∙ counted ([] ∷ []) (positions_in view.entries) (all_from (λ p. length p ≤ 125) (positions_in view.entries) (λ q h. written_short view holds q h)) (positions_come_out (finite.keys view.entries))

  pub total_is : HoldsPositions view → (at n : ℕ) → finite.get view.places at ≡ Some [] → n ≡ min (length (positions_from view 26 (position_at view at))) 4294967296 → n ≡ min (length (positions_in view.entries)) 4294967296
  total_is holds at n root e = e ∙ ap (λ p. min (length (positions_from view 26 p)) 4294967296) (position_is view at [] root) ∙ ap (λ k. min k 4294967296) (count_all holds)

  -- of a node's children, those before bit i
  abbrev pub before : ℕ → KeyBits → ℕ → List KeyBits
  before n p i = flat_map (positions_from view n) (filter (is_written view) (map (λ c. p ++ c) (take i child_places)))

  pub before_kept : (n i : ℕ) (p : KeyBits) → i < 32 → is_written view (p ++ low_bits 5 i) ≡ true → length (before n p (i + 1)) ≡ length (before n p i) + length (positions_from view n (p ++ low_bits 5 i))
  before_kept n i p l h =
      ap (λ ps. length (flat_map (positions_from view n) ps)) (kept_step (is_written view) p i l h)
      ∙ ap length (flat_map-append (positions_from view n) (filter (is_written view) (map (λ c. p ++ c) (take i child_places))) ((p ++ low_bits 5 i) ∷ []))
      ∙ length-append (before n p i) (positions_from view n (p ++ low_bits 5 i) ++ [])
      ∙ ap (λ ps. length (before n p i) + length ps) (append-nil (positions_from view n (p ++ low_bits 5 i)))

  pub before_skipped : (n i : ℕ) (p : KeyBits) → i < 32 → is_written view (p ++ low_bits 5 i) ≡ false → length (before n p (i + 1)) ≡ length (before n p i)
  before_skipped n i p l h = ap (λ ps. length (flat_map (positions_from view n) ps)) (skip_step (is_written view) p i l h ∙ append-nil (filter (is_written view) (map (λ c. p ++ c) (take i child_places))))

  pub before_all : (n k i : ℕ) (p : KeyBits) → 32 ≤ i → n ≡ suc k → 1 + length (before k p i) ≡ length (positions_from view n p)
  before_all n k i p l e =
      ap (λ cs. 1 + length (flat_map (positions_from view k) (filter (is_written view) (map (λ c. p ++ c) cs)))) (all_children i l)
      ∙ (let one : 1 + length (flat_map (positions_from view k) (below p)) ≡ length (p ∷ flat_map (positions_from view k) (below p)) = omega arith in one)
      ∙ ap length (sym (from_level n k p e))
