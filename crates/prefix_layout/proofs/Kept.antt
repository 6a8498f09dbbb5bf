-- The kept positions in order, and which of them are written.
use Rattle.std.proofs.Common.{◌≡◌, ℕ, zero, suc, ◌+◌, ◌*◌, ◌/◌, ◌%◌, ◌<◌, ◌≤◌, Bool, true, false, cond, List, [], ◌∷◌, ◌++◌, length, map, take, drop, refl, sym, ap, ◌∙◌, subst, arith, inl, inr, append_assoc, Option, Some, None, length-append, length-take, length-drop}
use Rattle.std.specs.Prelude.{is_some, IsSome, ◌==◌, ◌&&◌, not}
use Rattle.std.specs.Option.{unwrap_or}
use Rattle.std.specs.List.{filter, flat_map}
use Rattle.std.specs.FinMap as finite
use Rattle.std.proofs.lemmas.Bool.{eq-eqb, eqb-true}
use Rattle.std.proofs.lemmas.List.{append-nil, take-append-drop}
use Rattle.std.proofs.lemmas.List.Elements.{filter-append}
use Rattle.prefix_model.specs.Keys.{KeyBits, stands_in, prefixes, keys_of_length, low_bits}
use Rattle.prefix_model.specs.Positions.{positions_in, has_node_length, child_places, data_bits, child_bits}
use Rattle.prefix_model.specs.Reading.{ComesOut, positions_below}
use Rattle.prefix_model.proofs.Building.{tie_any}
use Rattle.prefix_model.proofs.KeyLemmas.{both_ways, stands_in-keys, filter_in, prefixes_in, among}
use Rattle.prefix_model.proofs.KeyNumbers.{length-low_bits}
use Rattle.prefix_model.proofs.Archive.Ordered.{OfLength}
use Rattle.prefix_model.proofs.Archive.Levels.{lists_positions, positions_come_out, five_bits}
use Rattle.prefix_model.specs.TableViews.{TableView, HoldsPositions, position_at}
use Rattle.prefix_layout.specs.Writing.{TellsBelow, is_written, is_kept, kept_positions, children_where, is_filled, IsPlaced}
use Rattle.prefix_layout.specs.declared.write.Placed.{Placed}
use Rattle.prefix_layout.proofs.Below.{bitmap_none, bitmap_some, some_here, none_below, written_is, child_length}

-- ---- queues

-- what comes out does not depend on how the following keys are told
out_same : (f g : KeyBits → List KeyBits) → ((p : KeyBits) → f p ≡ g p) → (qs ps : List KeyBits) → ComesOut f qs ps → ComesOut g qs ps
out_same f g e [] [] o = tt
out_same f g e [] (p ∷ ps) o = absurd o
out_same f g e (q ∷ qs) [] o = absurd o
out_same f g e (q ∷ qs) (p ∷ ps) o = (o.0, out_same f g e (qs ++ g q) ps (subst (λ (r : List KeyBits). ComesOut f (qs ++ r) ps) (e q) o.1))

-- one list comes out
pub out_one_list : (f : KeyBits → List KeyBits) (qs ps rs : List KeyBits) → ComesOut f qs ps → ComesOut f qs rs → ps ≡ rs
out_one_list f [] [] [] o u = refl
out_one_list f [] [] (r ∷ rs) o u = absurd u
out_one_list f [] (p ∷ ps) rs o u = absurd o
out_one_list f (q ∷ qs) [] rs o u = absurd o
out_one_list f (q ∷ qs) (p ∷ ps) [] o u = absurd u
out_one_list f (q ∷ qs) (p ∷ ps) (r ∷ rs) o u = λ i. (sym o.0 ∙ u.0) i ∷ out_one_list f (qs ++ f q) ps rs o.1 u.1 i

-- where the keys that pass are followed by those that pass, and others by none, those that pass come out
pub out_filtered : (f g : KeyBits → List KeyBits) (w : KeyBits → Bool) → ((p : KeyBits) → filter w (f p) ≡ cond (w p) (g p) []) → (qs ps : List KeyBits) → ComesOut f qs ps → ComesOut g (filter w qs) (filter w ps)
out_filtered f g w e [] [] o = tt
out_filtered f g w e [] (p ∷ ps) o = absurd o
out_filtered f g w e (q ∷ qs) [] o = absurd o
out_filtered f g w e (q ∷ qs) (p ∷ ps) o =
    let rest = subst (λ (r : List KeyBits). ComesOut g r (filter w ps)) (filter-append w qs (f q) ∙ ap (λ r. filter w qs ++ r) (e q)) (out_filtered f g w e (qs ++ f q) ps o.1) in
    subst (λ (r : KeyBits). ComesOut g (filter w (q ∷ qs)) (cond (w r) (r ∷ filter w ps) (filter w ps))) o.0 (go (w q) rest)
  where
    go : (b : Bool) → ComesOut g (filter w qs ++ cond b (g q) []) (filter w ps) → ComesOut g (cond b (q ∷ filter w qs) (filter w qs)) (cond b (q ∷ filter w ps) (filter w ps))
    go true h = (refl, h)
    go false h = subst (λ (r : List KeyBits). ComesOut g r (filter w ps)) (append-nil (filter w qs)) h

-- what comes out is what was put in: the first keys, and those that follow each
pub out_is : (f : KeyBits → List KeyBits) (qs ps : List KeyBits) → ComesOut f qs ps → ps ≡ qs ++ flat_map f ps
out_is f [] [] o = refl
out_is f [] (p ∷ ps) o = absurd o
out_is f (q ∷ qs) [] o = absurd o
out_is f (q ∷ qs) (p ∷ ps) o =
    (λ i. sym o.0 i ∷ out_is f (qs ++ f q) ps o.1 i)
    ∙ ap (λ r. q ∷ r) (append_assoc qs (f q) (flat_map f ps) ∙ ap (λ (k : KeyBits). qs ++ (f k ++ flat_map f ps)) o.0)

-- each key stands in the queue before it comes out
pub out_ahead : (f : KeyBits → List KeyBits) (qs ps : List KeyBits) (i : ℕ) → ComesOut f qs ps → i < length ps → i < length qs + length (flat_map f (take i ps))
out_ahead f [] [] i o l = absurd (omega arith)
out_ahead f [] (p ∷ ps) i o l = absurd o
out_ahead f (q ∷ qs) [] i o l = absurd o
out_ahead f (q ∷ qs) (p ∷ ps) zero o l = omega arith
out_ahead f (q ∷ qs) (p ∷ ps) (suc i) o l =
    let ih = out_ahead f (qs ++ f q) ps i o.1 (omega arith) in
    let a = length-append qs (f q) in
    let b = length-append (f p) (flat_map f (take i ps)) in
    let c : length (f q) ≡ length (f p) = ap (λ k. length (f k)) o.0 in
    omega arith

-- ---- kept positions

module _ {T : Type 0} (view : TableView T) (holds : HoldsPositions view) where
  kept_above : (n : ℕ) (p r : KeyBits) → length r ≡ 5 * n → is_kept view (p ++ r) ≡ true → is_kept view p ≡ true
  kept_above zero p [] e k = subst (λ q. is_kept view q ≡ true) (append-nil p) k
  kept_above zero p (b ∷ r) e k = absurd (omega arith)
  kept_above (suc n) p r e k =
      let c = take 5 r in
      let s = drop 5 r in
      let long : length c ≡ 5 = length-take 5 r ∙ (let d : 5 ≤ length r = omega arith in omega arith) in
      let rest : length s ≡ 5 * n = omega (arith, length-drop 5 r) in
      let whole : p ++ r ≡ (p ++ c) ++ s = ap (λ q. p ++ q) (sym (take-append-drop 5 r)) ∙ sym (append_assoc p c s) in
      holds.above p c long (kept_above n (p ++ c) s rest (subst (λ q. is_kept view q ≡ true) whole k))

  stands_in-kept : (q : KeyBits) → stands_in (finite.keys view.kept) q ≡ is_kept view q
  stands_in-kept q = sym (finite.contains_key-keys view.kept q ∙ tie_any q (finite.keys view.kept))

  kept_listed : (q : KeyBits) → stands_in (kept_positions view) q ≡ is_kept view q
  kept_listed q = both_ways _ _ there back
    where
      there : stands_in (kept_positions view) q ≡ true → is_kept view q ≡ true
      there h = elim (((lists_positions (finite.keys view.kept)).members q).0 h) [
        | inl nil ↦ ap (is_kept view) nil ∙ holds.root
        | inr w ↦
            let below : is_kept view (q ++ w.1.1) ≡ true = ap (is_kept view) (sym w.1.3) ∙ sym (stands_in-kept w.1.0) ∙ w.1.2 in
            let here : length q % 5 ≡ 0 = eqb-true (length q % 5) 0 w.0 in
            let all = (holds.lengths (q ++ w.1.1) below).0 in
            let n : length w.1.1 ≡ 5 * (length w.1.1 / 5) = omega (arith, length-append q w.1.1) in
            kept_above (length w.1.1 / 5) q w.1.1 n below
      ]

      back : is_kept view q ≡ true → stands_in (kept_positions view) q ≡ true
      back h = ((lists_positions (finite.keys view.kept)).members q).1 (inr (eq-eqb (length q % 5) 0 (holds.lengths q h).0, (q, [], stands_in-kept q ∙ h, sym (append-nil q))))

  same_filter : (ps : List KeyBits) → filter (stands_in (kept_positions view)) ps ≡ filter (is_kept view) ps
  same_filter [] = refl
  same_filter (p ∷ ps) = λ i. cond (kept_listed p i) (p ∷ same_filter ps i) (same_filter ps i)

  pub kept_come_out : ComesOut (children_where (is_kept view)) ([] ∷ []) (kept_positions view)
  kept_come_out = out_same (positions_below (finite.keys view.kept)) (children_where (is_kept view)) (λ p. same_filter (map (λ c. p ++ c) child_places)) ([] ∷ []) (kept_positions view) (positions_come_out (finite.keys view.kept))

  -- ---- written positions

  written_if : (q r : KeyBits) → length q % 5 ≡ 0 → is_some (finite.get view.entries (q ++ r)) ≡ true → is_written view q ≡ true
  written_if q r e h = ((lists_positions (finite.keys view.entries)).members q).1 (inr (eq-eqb (length q % 5) 0 e, (q ++ r, r, stands_in-keys view.entries (q ++ r) ∙ h, refl)))

  pub root_written : is_written view [] ≡ true
  root_written = ((lists_positions (finite.keys view.entries)).members []).1 (inl refl)

  pub written_kept : (q : KeyBits) → is_written view q ≡ true → is_kept view q ≡ true
  written_kept q h = elim (((lists_positions (finite.keys view.entries)).members q).0 h) [
    | inl nil ↦ ap (is_kept view) nil ∙ holds.root
    | inr w ↦
        let front : stands_in (prefixes w.1.0) q ≡ true = ap (λ k. stands_in (prefixes k) q) w.1.3 ∙ prefixes_in q w.1.1 in
        holds.stored w.1.0 q (sym (stands_in-keys view.entries w.1.0) ∙ w.1.2) (filter_in has_node_length (prefixes w.1.0) q w.0 front)
  ]

  -- what stands above a written position is written
  written_above : (q c : KeyBits) → length q % 5 ≡ 0 → is_written view (q ++ c) ≡ true → is_written view q ≡ true
  written_above q c e h = elim (((lists_positions (finite.keys view.entries)).members (q ++ c)).0 h) [
    | inl nil ↦
        let none : q ≡ [] = front_none q c nil in
        ap (is_written view) none ∙ root_written
    | inr w ↦ written_if q (c ++ w.1.1) e (ap (λ k. is_some (finite.get view.entries k)) (sym (append_assoc q c w.1.1) ∙ sym w.1.3) ∙ sym (stands_in-keys view.entries w.1.0) ∙ w.1.2)
  ]
    where
      front_none : (q c : KeyBits) → q ++ c ≡ [] → q ≡ []
      front_none [] c e = refl
      front_none (b ∷ q) c e = cc

  filter_within : (w k : KeyBits → Bool) → ((q : KeyBits) → w q ≡ true → k q ≡ true) → (ps : List KeyBits) → filter w (filter k ps) ≡ filter w ps
  filter_within w k sub [] = refl
  filter_within w k sub (p ∷ ps) = go (k p) refl (filter_within w k sub ps)
    where
      off : (b : Bool) → w p ≡ b → k p ≡ false → cond b (p ∷ filter w ps) (filter w ps) ≡ filter w ps
      off false e f = refl
      off true e f = absurd (let yes = sub p e in cc)

      go : (b : Bool) → k p ≡ b → filter w (filter k ps) ≡ filter w ps → filter w (cond b (p ∷ filter k ps) (filter k ps)) ≡ cond (w p) (p ∷ filter w ps) (filter w ps)
      go true e ih = ap (λ r. cond (w p) (p ∷ r) r) ih
      go false e ih = ih ∙ sym (off (w p) refl e)

  none_follow : (p : KeyBits) → is_written view p ≡ false → (cs : List KeyBits) → OfLength 5 cs → filter (is_written view) (map (λ c. p ++ c) cs) ≡ []
  none_follow p e [] h = refl
  none_follow p e (c ∷ cs) h = go (is_written view (p ++ c)) refl (none_follow p e cs h.1)
    where
      go : (b : Bool) → is_written view (p ++ c) ≡ b → filter (is_written view) (map (λ c. p ++ c) cs) ≡ [] → cond b ((p ++ c) ∷ filter (is_written view) (map (λ c. p ++ c) cs)) (filter (is_written view) (map (λ c. p ++ c) cs)) ≡ []
      go false f ih = ih
      go true f ih =
          let whole = (holds.lengths (p ++ c) (written_kept (p ++ c) f)).0 in
          let here : length p % 5 ≡ 0 = omega (arith, whole, h.0, length-append p c) in
          absurd (let yes = written_above p c here f in cc)

  follow_written : (p : KeyBits) → filter (is_written view) (children_where (is_kept view) p) ≡ cond (is_written view p) (children_where (is_written view) p) []
  follow_written p = filter_within (is_written view) (is_kept view) written_kept (map (λ c. p ++ c) child_places) ∙ go (is_written view p) refl
    where
      go : (b : Bool) → is_written view p ≡ b → children_where (is_written view) p ≡ cond b (children_where (is_written view) p) []
      go true e = refl
      go false e = none_follow p e child_places five_bits

  pub written_of_kept : filter (is_written view) (kept_positions view) ≡ positions_in view.entries
  written_of_kept =
      out_one_list (children_where (is_written view)) ([] ∷ []) (filter (is_written view) (kept_positions view)) (positions_in view.entries)
      (subst (λ (b : Bool). ComesOut (children_where (is_written view)) (cond b ([] ∷ []) []) (filter (is_written view) (kept_positions view))) root_written
      (out_filtered (children_where (is_kept view)) (children_where (is_written view)) (is_written view) follow_written ([] ∷ []) (kept_positions view) kept_come_out))
      (positions_come_out (finite.keys view.entries))

  -- ---- which nodes hold something

  not_written : (q : KeyBits) → length q % 5 ≡ 0 → is_written view q ≡ false → TellsBelow (finite.get view.entries) q false
  not_written q e f s = go (finite.get view.entries (q ++ s)) refl
    where
      go : (o : Option T) → finite.get view.entries (q ++ s) ≡ o → finite.get view.entries (q ++ s) ≡ None
      go None h = h
      go (Some x) h = absurd (let yes = written_if q s e (ap is_some h) in cc)

  child_stands : (i : ℕ) → stands_in child_places (low_bits 5 i) ≡ true
  unfolding child_places
  child_stands i = subst (λ n. stands_in (keys_of_length n) (low_bits 5 i) ≡ true) (length-low_bits 5 i) (among (low_bits 5 i))

  pub position_long : (at : ℕ) → IsSome (finite.get view.places at) → length (position_at view at) % 5 ≡ 0
  position_long at h = go (finite.get view.places at) refl h
    where
      go : (o : Option KeyBits) → finite.get view.places at ≡ o → is_some o ≡ true → length (unwrap_or (finite.get view.places at) []) % 5 ≡ 0
      go None e h = cc
      go (Some q) e h = subst (λ (o : Option KeyBits). length (unwrap_or o []) % 5 ≡ 0) (sym e) (holds.lengths q (holds.named at q e)).0

  pub written_filled : (n : Placed) → IsPlaced view (is_written view) n → 0 < length (position_at view n.at) → is_written view (position_at view n.at) ≡ is_filled n
  written_filled n h l = go (n.data_bits == 0) refl (n.child_bits == 0) refl
    where
      go : (b : Bool) → (n.data_bits == 0) ≡ b → (c : Bool) → (n.child_bits == 0) ≡ c → is_written view (position_at view n.at) ≡ not (b && c)
      go false e c d =
          let q = position_at view n.at in
          let five = position_long n.at h.named in
          sym (written_is view q five l true (some_here (finite.get view.entries) q (λ z. let y = ap (λ k. k == 0) (h.data_is ∙ z) in cc)))
      go true e false d =
          let q = position_at view n.at in
          let five = position_long n.at h.named in
          let one = bitmap_some (λ c. is_written view (q ++ c)) child_places (λ z. let y = ap (λ k. k == 0) (h.children ∙ z) in cc) in
          written_above q one.0 five one.1
      go true e true d =
          let q = position_at view n.at in
          let five = position_long n.at h.named in
          let no_data : data_bits (finite.get view.entries) q ≡ 0 = sym h.data_is ∙ eqb-true n.data_bits 0 e in
          let no_child : child_bits (is_written view) q ≡ 0 = sym h.children ∙ eqb-true n.child_bits 0 d in
          sym (written_is view q five l false
          (none_below (finite.get view.entries) q no_data
          (λ k small. not_written (q ++ low_bits 5 k) (omega (arith, child_length q k)) (bitmap_none (λ c. is_written view (q ++ c)) child_places no_child (low_bits 5 k) (child_stands k)))))
