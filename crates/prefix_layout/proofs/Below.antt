-- Which keys stand at and below a node.
use Rattle.std.proofs.Common.{◌≡◌, ◌≢◌, ℕ, zero, suc, ◌+◌, ◌*◌, ◌%◌, ◌^◌, ◌<◌, ◌≤◌, Bool, true, false, cond, List, [], ◌∷◌, ◌++◌, length, map, take, drop, get_or, filter, refl, sym, ap, ◌∙◌, subst, arith, inl, inr, append_assoc, Option, Some, None, length-append}
use Rattle.std.specs.Prelude.{is_some, slice_get, ◌||◌}
use Rattle.std.specs.FinMap as finite
use Rattle.std.specs.Option.{unwrap_or}
use Rattle.std.proofs.lemmas.Bool.{eq-eqb, eqb-true, cases_lt}
use Rattle.std.proofs.lemmas.List.{take-append-drop, take_more, take_all, map-append}
use Rattle.std.proofs.lemmas.List.Elements.{filter-append}
use Rattle.std.proofs.Math.Nat.{pow-suc}
use Rattle.prefix_model.specs.Keys.{KeyBits, same_key, stands_in, prefixes, keys_of_length, number, low_bits}
use Rattle.prefix_model.specs.Positions.{has_node_length, bitmap, data_bits, data_places, child_places}
use Rattle.prefix_model.proofs.KeyNumbers.{length-low_bits, number-low_bits}
use Rattle.prefix_model.proofs.KeyLemmas.{filter_in, prefixes_in, same_key-same, stands_in-keys}
use Rattle.prefix_model.proofs.Archive.Levels.{lists_positions}
use Rattle.prefix_model.proofs.Archive.Places.{short, in_data}
use Rattle.prefix_model.specs.TableViews.{TableView, HoldsPositions, position_at}
use Rattle.prefix_model.proofs.KeyPlaces.{low_bits-number, number-lt, key_at_number}
use Rattle.prefix_layout.specs.Writing.{TellsBelow, is_written}

-- ---- bits

pub bitmap_none : (g : KeyBits → Bool) (ps : List KeyBits) → bitmap (map g ps) ≡ 0 → (q : KeyBits) → stands_in ps q ≡ true → g q ≡ false
bitmap_none g [] e q h = absurd cc
bitmap_none g (p ∷ ps) e q h = go (λ z. bitmap_none g ps z q) (g p) refl e (same_key q p) refl h
  where
    go : (bitmap (map g ps) ≡ 0 → stands_in ps q ≡ true → g q ≡ false) → (b : Bool) → g p ≡ b → cond b 1 0 + 2 * bitmap (map g ps) ≡ 0 → (same : Bool) → same_key q p ≡ same → (same || stands_in ps q) ≡ true → g q ≡ false
    go ih true f z same s k = absurd (omega arith)
    go ih false f z true s k = ap g (same_key-same q p s) ∙ f
    go ih false f z false s k = ih (omega arith) k

pub bitmap_some : (g : KeyBits → Bool) (ps : List KeyBits) → bitmap (map g ps) ≢ 0 → (q : KeyBits) × (g q ≡ true)
bitmap_some g [] h = absurd (h refl)
bitmap_some g (p ∷ ps) h = go (bitmap_some g ps) (g p) refl h
  where
    go : (bitmap (map g ps) ≢ 0 → (q : KeyBits) × (g q ≡ true)) → (b : Bool) → g p ≡ b → (cond b 1 0 + 2 * bitmap (map g ps)) ≢ 0 → (q : KeyBits) × (g q ≡ true)
    go ih true f k = (p, f)
    go ih false f k = ih (λ z. k (omega (arith, z)))

pub bitmap_push : (bs : List Bool) (b : Bool) → bitmap (bs ++ b ∷ []) ≡ bitmap bs + cond b (2 ^ length bs) 0
bitmap_push [] true = refl
bitmap_push [] false = refl
bitmap_push (x ∷ bs) true = let ih = bitmap_push bs true in let p = pow-suc 2 (length bs) in omega arith
bitmap_push (x ∷ bs) false = let ih = bitmap_push bs false in omega arith

-- ---- places

pub count_children : length child_places ≡ 32
unfolding child_places
count_children = refl

pub count_places : length data_places ≡ 31
unfolding data_places
count_places = refl

pub found_or : {A : Type 0} (xs : List A) (i : ℕ) (x d : A) → slice_get xs i ≡ Some x → get_or xs i d ≡ x
found_or [] i x d e = absurd cc
found_or (y ∷ xs) zero x d e = cc
found_or (y ∷ xs) (suc i) x d e = found_or xs i x d e

pub found_at : {A : Type 0} (xs : List A) (i : ℕ) (d : A) → i < length xs → slice_get xs i ≡ Some (get_or xs i d)
found_at [] i d l = absurd (omega arith)
found_at (y ∷ xs) zero d l = refl
found_at (y ∷ xs) (suc i) d l = found_at xs i d (omega arith)

pub child_at : (i : ℕ) (d : KeyBits) → i < 32 → get_or child_places i d ≡ low_bits 5 i
unfolding child_places
child_at i d l =
    let s = low_bits 5 i in
    let size : length s ≡ 5 = length-low_bits 5 i in
    let digits : number s ≡ i = number-low_bits 5 i ∙ (let e : i % 2 ^ 5 ≡ i = omega arith in e) in
    found_or (keys_of_length 5) i s d ((λ j. slice_get (keys_of_length (sym size j)) (sym digits j)) ∙ key_at_number s)

-- the first places, and one more
more_places : (i : ℕ) → i < 32 → take (i + 1) child_places ≡ take i child_places ++ low_bits 5 i ∷ []
more_places i l = take_more child_places i [] (omega (arith, count_children)) ∙ ap (λ c. take i child_places ++ c ∷ []) (child_at i [] l)

pub all_children : (i : ℕ) → 32 ≤ i → take i child_places ≡ child_places
all_children i l = take_all i child_places (omega (arith, count_children))

pub kept_step : (w : KeyBits → Bool) (p : KeyBits) (i : ℕ) → i < 32 → w (p ++ low_bits 5 i) ≡ true → filter w (map (λ c. p ++ c) (take (i + 1) child_places)) ≡ filter w (map (λ c. p ++ c) (take i child_places)) ++ (p ++ low_bits 5 i) ∷ []
kept_step w p i l e =
    ap (λ ps. filter w (map (λ c. p ++ c) ps)) (more_places i l)
    ∙ ap (filter w) (map-append (λ c. p ++ c) (take i child_places) (low_bits 5 i ∷ []))
    ∙ filter-append w (map (λ c. p ++ c) (take i child_places)) ((p ++ low_bits 5 i) ∷ [])
    ∙ ap (λ b. filter w (map (λ c. p ++ c) (take i child_places)) ++ cond b ((p ++ low_bits 5 i) ∷ []) []) e

pub skip_step : (w : KeyBits → Bool) (p : KeyBits) (i : ℕ) → i < 32 → w (p ++ low_bits 5 i) ≡ false → filter w (map (λ c. p ++ c) (take (i + 1) child_places)) ≡ filter w (map (λ c. p ++ c) (take i child_places)) ++ []
skip_step w p i l e =
    ap (λ ps. filter w (map (λ c. p ++ c) ps)) (more_places i l)
    ∙ ap (filter w) (map-append (λ c. p ++ c) (take i child_places) (low_bits 5 i ∷ []))
    ∙ filter-append w (map (λ c. p ++ c) (take i child_places)) ((p ++ low_bits 5 i) ∷ [])
    ∙ ap (λ b. filter w (map (λ c. p ++ c) (take i child_places)) ++ cond b ((p ++ low_bits 5 i) ∷ []) []) e

-- ---- keys below a node

module _ {V : Type 0} (f : KeyBits → Option V) (p : KeyBits) where
  pub some_here : data_bits f p ≢ 0 → TellsBelow f p true
  some_here h = bitmap_some (λ s. is_some (f (p ++ s))) data_places h

  none_here : data_bits f p ≡ 0 → (s : KeyBits) → short 5 s ≡ true → f (p ++ s) ≡ None
  none_here e s h = go (f (p ++ s)) refl
    where
      go : (o : Option V) → f (p ++ s) ≡ o → f (p ++ s) ≡ None
      go None k = k
      go (Some x) k = let no = bitmap_none (λ s. is_some (f (p ++ s))) data_places e s (in_data s h) in absurd (let yes = ap is_some k in cc)

  long_length : (s : KeyBits) → short 5 s ≡ false → length (take 5 s) ≡ 5
  long_length [] h = cc
  long_length (a ∷ []) h = cc
  long_length (a ∷ b ∷ []) h = cc
  long_length (a ∷ b ∷ c ∷ []) h = cc
  long_length (a ∷ b ∷ c ∷ d ∷ []) h = cc
  long_length (a ∷ b ∷ c ∷ d ∷ e ∷ s) h = refl

  -- where no child before j has a key
  abbrev pub NoneBefore : ℕ → Type 0
  NoneBefore j = (k : ℕ) → k < j → TellsBelow f (p ++ low_bits 5 k) false

  pub none_more : (j : ℕ) → NoneBefore j → TellsBelow f (p ++ low_bits 5 j) false → NoneBefore (j + 1)
  none_more j h here k l = elim (cases_lt k j) [ inl before ↦ h k before | inr last ↦ subst (λ i. TellsBelow f (p ++ low_bits 5 i) false) (let e : j ≡ k = omega arith in e) here ]

  pub none_below : data_bits f p ≡ 0 → NoneBefore 32 → TellsBelow f p false
  none_below e h s = go (short 5 s) refl
    where
      go : (b : Bool) → short 5 s ≡ b → f (p ++ s) ≡ None
      go true k = none_here e s k
      go false k =
          let size = long_length s k in
          let named : low_bits 5 (number (take 5 s)) ≡ take 5 s = ap (λ n. low_bits n (number (take 5 s))) (sym size) ∙ low_bits-number (take 5 s) in
          let small : number (take 5 s) < 32 = let l = number-lt (take 5 s) in subst (λ n. number (take 5 s) < 2 ^ n) size l in
          ap (λ t. f (p ++ t)) (sym (take-append-drop 5 s))
          ∙ ap f (sym (append_assoc p (take 5 s) (drop 5 s)))
          ∙ ap (λ t. f (p ++ t ++ drop 5 s)) (sym named)
          ∙ h (number (take 5 s)) small (drop 5 s)

  pub some_below : (c : KeyBits) → TellsBelow f (p ++ c) true → TellsBelow f p true
  some_below c h = (c ++ h.0, ap (λ k. is_some (f k)) (sym (append_assoc p c h.0)) ∙ h.1)

-- ---- kept positions

pub child_length : (q : KeyBits) (i : ℕ) → length (q ++ low_bits 5 i) ≡ length q + 5
child_length q i = length-append q (low_bits 5 i) ∙ ap (λ n. length q + n) (length-low_bits 5 i)

module _ {T : Type 0} (view : TableView T) where
  pub position_is : (at : ℕ) (q : KeyBits) → finite.get view.places at ≡ Some q → position_at view at ≡ q
  position_is at q e = ap (λ o. unwrap_or o []) e

  pub size_is : (at : ℕ) (q : KeyBits) (i : ℕ) → finite.get view.places at ≡ Some (q ++ low_bits 5 i) → length (position_at view at) ≡ length q + 5
  size_is at q i e = ap length (position_is at (q ++ low_bits 5 i) e) ∙ child_length q i

  pub tells_child : (f : KeyBits → Option T) (at : ℕ) (q : KeyBits) (b c : Bool) → finite.get view.places at ≡ Some q → TellsBelow f (position_at view at) b → b ≡ c → TellsBelow f q c
  tells_child f at q b c e h same = subst (λ k. TellsBelow f k c) (position_is at q e) (subst (TellsBelow f (position_at view at)) same h)

  pub not_kept : HoldsPositions view → (q : KeyBits) → length q % 5 ≡ 0 → finite.contains_key view.kept q ≡ false → TellsBelow (finite.get view.entries) q false
  not_kept holds q e gone r = go (finite.get view.entries (q ++ r)) refl
    where
      go : (o : Option T) → finite.get view.entries (q ++ r) ≡ o → finite.get view.entries (q ++ r) ≡ None
      go None h = h
      go (Some x) h =
          let yes = holds.stored (q ++ r) q (ap is_some h) (filter_in has_node_length (prefixes (q ++ r)) q (eq-eqb (length q % 5) 0 e) (prefixes_in q r)) in
          absurd cc

  pub too_deep : HoldsPositions view → (q : KeyBits) → length q % 5 ≡ 0 → 130 ≤ length q → TellsBelow (finite.get view.entries) q false
  too_deep holds q e deep = go (finite.contains_key view.kept q) refl
    where
      go : (b : Bool) → finite.contains_key view.kept q ≡ b → TellsBelow (finite.get view.entries) q false
      go true h = let l = (holds.lengths q h).1 in absurd (omega arith)
      go false h = not_kept holds q e h

  -- a position other than the root's is written where a key stands at or below it
  pub written_is : (q : KeyBits) → length q % 5 ≡ 0 → 0 < length q → (b : Bool) → TellsBelow (finite.get view.entries) q b → b ≡ is_written view q
  written_is q e l true h =
      sym (((lists_positions (finite.keys view.entries)).members q).1 (inr (eq-eqb (length q % 5) 0 e, (q ++ h.0, h.0, stands_in-keys view.entries (q ++ h.0) ∙ h.1, refl))))
  written_is q e l false h = go (is_written view q) refl
    where
      go : (b : Bool) → is_written view q ≡ b → false ≡ is_written view q
      go false k = sym k
      go true k = elim (((lists_positions (finite.keys view.entries)).members q).0 k) [
        | inl nil ↦ absurd (omega (arith, ap length nil))
        | inr w ↦
            let held = sym (stands_in-keys view.entries w.1.0) ∙ w.1.2 in
            let none = ap is_some (ap (finite.get view.entries) w.1.3 ∙ h w.1.1) in
            absurd cc
      ]

  -- a position that is written is kept, so no deeper than nodes are
  pub written_short : HoldsPositions view → (q : KeyBits) → is_written view q ≡ true → length q ≤ 125
  written_short holds q h = elim (((lists_positions (finite.keys view.entries)).members q).0 h) [
    | inl nil ↦ omega (arith, ap length nil)
    | inr w ↦
        let whole : length q % 5 ≡ 0 = eqb-true (length q % 5) 0 w.0 in
        let held = sym (stands_in-keys view.entries w.1.0) ∙ w.1.2 in
        elim (cases_lt 125 (length q)) [
          | inl deep ↦
              let none = ap is_some (ap (finite.get view.entries) w.1.3 ∙ too_deep holds q whole (omega arith) w.1.1) in
              absurd cc
          | inr fine ↦ fine
        ]
  ]
