-- The queue of nodes, and the sums over its positions.
use Rattle.std.proofs.Common.{◌≡◌, ℕ, zero, suc, ◌+◌, ◌^◌, ◌<◌, ◌≤◌, Bool, true, false, cond, List, [], ◌∷◌, ◌++◌, length, map, take, drop, get_or, filter, refl, sym, ap, ◌∙◌, subst, arith, append_assoc, Option, length-append}
use Rattle.std.specs.Prelude.{is_some}
use Rattle.std.specs.List.{AllByRecursion, flat_map}
use lib.Count.{ones}
use Rattle.std.specs.FinMap as finite
use Rattle.std.proofs.lemmas.List.{append-nil, map-append, length-map, drop_more, take_more, take-append-drop, drop-append-le, take-append-le, drop_all, take_all, length-drop}
use Rattle.prefix_model.specs.Keys.{KeyBits, stands_in}
use Rattle.prefix_model.specs.Tables.{KeyMap}
use Rattle.prefix_model.specs.Positions.{positions_in, data_places, child_places, data_bits, child_bits, bits_set, count_true, NodeRecord, records}
use Rattle.prefix_model.specs.Spelling.{record_bytes}
use Rattle.prefix_model.proofs.Archive.Numbers.{bitmap-lt, bits_set-count_ones}
use Rattle.prefix_layout.proofs.Below.{count_children, count_places}
use Rattle.prefix_model.specs.Reading.{ComesOut, positions_below}
use Rattle.prefix_model.proofs.Archive.Count.{sum_of}
use Rattle.prefix_model.proofs.Archive.Levels.{positions_come_out, longest, within_longest}
use Rattle.prefix_model.proofs.Archive.Scan.{marks_in}
use Rattle.prefix_model.proofs.KeyLemmas.{all_append, stands_in-keys}
use Rattle.prefix_model.proofs.Archive.Spelled.{keys_in, shape_at, shapes_at, marks_fit, kids_fit, entries_counted}
use Rattle.prefix_model.specs.TableViews.{TableView, position_at}
use Rattle.prefix_layout.specs.declared.write.Placed.{Placed}
use Rattle.prefix_layout.specs.Writing.{is_written, children_where, positions_of_nodes, IsPlaced, IsQueue, Extends}

-- ---- what comes out

pub all_at : {A : Type 0} (P : A → Type 0) (xs : List A) (i : ℕ) (d : A) → i < length xs → AllByRecursion P xs → P (get_or xs i d)
all_at P [] i d l h = absurd (omega arith)
all_at P (x ∷ xs) zero d l h = h.0
all_at P (x ∷ xs) (suc i) d l h = all_at P xs i d (omega arith) h.1

module _ (follow : KeyBits → List KeyBits) where
  record OutOne (q : KeyBits) (qs ps : List KeyBits) : Type 0 where
    rest : List KeyBits
    first : ps ≡ q ∷ rest
    left : ComesOut follow (qs ++ follow q) rest

  out_one : (q : KeyBits) (qs ps : List KeyBits) → ComesOut follow (q ∷ qs) ps → OutOne q qs ps
  out_one q qs [] h = absurd h
  out_one q qs (p ∷ ps) h = record { rest = ps; first = λ i. sym h.0 i ∷ ps; left = h.1 }

  out_none : (ps : List KeyBits) → ComesOut follow [] ps → ps ≡ []
  out_none [] h = refl
  out_none (p ∷ ps) h = absurd h

  pub out_count : (qs ps : List KeyBits) → ComesOut follow qs ps → length qs + sum_of (λ p. length (follow p)) ps ≡ length ps
  out_count [] [] h = refl
  out_count [] (p ∷ ps) h = absurd h
  out_count (q ∷ qs) [] h = absurd h
  out_count (q ∷ qs) (p ∷ ps) h =
      let ih = out_count (qs ++ follow q) ps h.1 in
      let l = length-append qs (follow q) in
      let s : length (follow q) ≡ length (follow p) = ap (λ k. length (follow k)) h.0 in
      omega arith

  -- after i steps, with qs all that was ever put into the queue
  pub record OutAfter (qs ps : List KeyBits) (i : ℕ) : Type 0 where
    pub done : take i qs ≡ take i ps
    pub left : ComesOut follow (drop i qs) (drop i ps)

  pub out_step : (qs ps : List KeyBits) (i : ℕ) → i < length qs → OutAfter qs ps i → (i < length ps) × OutAfter (qs ++ follow (get_or qs i [])) ps (i + 1)
  out_step qs ps i l o =
      let q = get_or qs i [] in
      let one = out_one q (drop (i + 1) qs) (drop i ps) (subst (λ xs. ComesOut follow xs (drop i ps)) (drop_more qs i [] l) o.left) in
      let within : i < length ps = let a = ap length one.first in let b = length-drop i ps in omega arith in
      let cut = sym one.first ∙ drop_more ps i [] within in
      let same : q ≡ get_or ps i [] = cc in
      let rest : one.rest ≡ drop (i + 1) ps = cc in (
        within,
        record {
          done = take-append-le (i + 1) qs (follow q) (omega arith) ∙ take_more qs i [] l ∙ (λ j. o.done j ++ same j ∷ []) ∙ sym (take_more ps i [] within);
          left = subst (λ xs. ComesOut follow xs (drop (i + 1) ps)) (sym (drop-append-le (i + 1) qs (follow q) (omega arith))) (subst (ComesOut follow (drop (i + 1) qs ++ follow q)) rest one.left);
        },
      )

  pub out_end : (qs ps : List KeyBits) (i : ℕ) → length qs ≤ i → OutAfter qs ps i → qs ≡ ps
  out_end qs ps i l o =
      let none = out_none (drop i ps) (subst (λ xs. ComesOut follow xs (drop i ps)) (drop_all i qs l) o.left) in
      sym (take_all i qs l) ∙ o.done ∙ sym (append-nil (take i ps)) ∙ ap (λ xs. take i ps ++ xs) (sym none) ∙ take-append-drop i ps

-- ---- the queue

module _ {T : Type 0} (view : TableView T) (test : KeyBits → Bool) where
  pub none_placed : IsQueue view test [] []
  none_placed = record { all = refl; each = tt }

  pub more_placed : (ps qs : List KeyBits) (ns ms : List Placed) → IsQueue view test ps ns → IsQueue view test qs ms → IsQueue view test (ps ++ qs) (ns ++ ms)
  more_placed ps qs ns ms h k = record {
    all = map-append (λ (n : Placed). position_at view n.at) ns ms ∙ (λ i. h.all i ++ k.all i);
    each = all_append (IsPlaced view test) ns ms h.each k.each;
  }

  -- of ps, what is done stands behind old, and rest is left
  pub record Pushed (old now : List Placed) (rest ps : List KeyBits) : Type 0 where
    pub done : List KeyBits
    pub is : Extends view test old now done
    pub all : done ++ rest ≡ ps

  pub none_pushed : (old : List Placed) (ps rest : List KeyBits) → ps ≡ rest → Pushed old old rest ps
  none_pushed old ps rest e = record { done = []; is = record { added = []; same = sym (append-nil old); is = none_placed }; all = sym e }

  pub more_pushed : (old now next : List Placed) (p : KeyBits) (rest ps : List KeyBits) → Pushed old now (p ∷ rest) ps → Extends view test now next (p ∷ []) → Pushed old next rest ps
  more_pushed old now next p rest ps h k = record {
    done = h.done ++ p ∷ [];
    is = record {
      added = h.is.added ++ k.added;
      same = k.same ∙ ap (λ xs. xs ++ k.added) h.is.same ∙ append_assoc old h.is.added k.added;
      is = more_placed h.done (p ∷ []) h.is.added k.added h.is.is k.is;
    };
    all = append_assoc h.done (p ∷ []) rest ∙ h.all;
  }

  pub all_pushed : (old now : List Placed) (ps : List KeyBits) → Pushed old now [] ps → Extends view test old now ps
  all_pushed old now ps h = subst (Extends view test old now) (sym (append-nil h.done) ∙ h.all) h.is

  pub record Runs (ps : List KeyBits) (ns : List Placed) (i : ℕ) : Type 0 where
    pub each : AllByRecursion (IsPlaced view test) ns
    pub out : OutAfter (children_where test) (positions_of_nodes view ns) ps i

  pub runs_first : (ps : List KeyBits) → ComesOut (children_where test) ([] ∷ []) ps → (old ns : List Placed) (p : KeyBits) → old ≡ [] → p ≡ [] → Extends view test old ns (p ∷ []) → Runs ps ns 0
  runs_first ps o old ns p none root h =
      let added : ns ≡ h.added = h.same ∙ ap (λ xs. xs ++ h.added) none in
      let first : positions_of_nodes view ns ≡ [] ∷ [] = ap (positions_of_nodes view) added ∙ h.is.all ∙ ap (λ k. k ∷ []) root in
      record { each = subst (AllByRecursion (IsPlaced view test)) (sym added) h.is.each; out = record { done = refl; left = subst (λ qs. ComesOut (children_where test) qs ps) (sym first) o } }

  pub position_number : (ns : List Placed) (i : ℕ) (n : Placed) → i < length ns → n ≡ get_or ns i n → get_or (positions_of_nodes view ns) i [] ≡ position_at view n.at
  position_number [] i n l e = absurd (omega arith)
  position_number (m ∷ ns) zero n l e = ap (λ (x : Placed). position_at view x.at) (sym e)
  position_number (m ∷ ns) (suc i) n l e = position_number ns i n (omega arith) e

  pub record NextRuns (ps : List KeyBits) (ns next : List Placed) (i : ℕ) : Type 0 where
    pub within : i < length ps
    pub runs : Runs ps next (i + 1)

  pub runs_next : (ps : List KeyBits) (ns next : List Placed) (i : ℕ) (n : Placed) → i < length ns → n ≡ get_or ns i n → Runs ps ns i → Extends view test ns next (children_where test (position_at view n.at)) → NextRuns ps ns next i
  runs_next ps ns next i n l e r h =
      let size : i < length (positions_of_nodes view ns) = omega (arith, length-map ns (λ (n : Placed). position_at view n.at)) in
      let step = out_step (children_where test) (positions_of_nodes view ns) ps i size r.out in
      let all : positions_of_nodes view next ≡ positions_of_nodes view ns ++ children_where test (get_or (positions_of_nodes view ns) i [])
      = ap (positions_of_nodes view) h.same ∙ map-append (λ (n : Placed). position_at view n.at) ns h.added ∙ ap (λ xs. positions_of_nodes view ns ++ xs) (h.is.all ∙ ap (children_where test) (sym (position_number ns i n l e))) in
      record {
        within = step.0;
        runs = record {
          each = subst (AllByRecursion (IsPlaced view test)) (sym h.same) (all_append (IsPlaced view test) ns h.added r.each h.is.each);
          out = subst (λ qs. OutAfter (children_where test) qs ps (i + 1)) (sym all) step.1;
        };
      }

  pub runs_end : (ps : List KeyBits) (ns : List Placed) (i : ℕ) → length ns ≤ i → Runs ps ns i → IsQueue view test ps ns
  runs_end ps ns i l r = record { all = out_end (children_where test) (positions_of_nodes view ns) ps i (omega (arith, length-map ns (λ (n : Placed). position_at view n.at))) r.out; each = r.each }

  -- node i of a queue
  pub queue_at : (ps : List KeyBits) (ns : List Placed) → IsQueue view test ps ns → (i : ℕ) (n : Placed) → i < length ns → n ≡ get_or ns i n → drop i ps ≡ position_at view n.at ∷ drop (i + 1) ps
  queue_at ps ns q i n l e =
      let size : i < length (positions_of_nodes view ns) = omega (arith, length-map ns (λ (n : Placed). position_at view n.at)) in
      subst (λ ps. drop i ps ≡ position_at view n.at ∷ drop (i + 1) ps) q.all
      (drop_more (positions_of_nodes view ns) i [] size ∙ ap (λ p. p ∷ drop (i + 1) (positions_of_nodes view ns)) (position_number ns i n l e))

  pub queue_end : (ps : List KeyBits) (ns : List Placed) → IsQueue view test ps ns → (i : ℕ) → length ns ≤ i → drop i ps ≡ []
  queue_end ps ns q i l = drop_all i ps (omega (arith, length-map ns (λ (n : Placed). position_at view n.at), ap length q.all))

  pub queue_length : (ps : List KeyBits) (ns : List Placed) → IsQueue view test ps ns → length ns ≡ length ps
  queue_length ps ns q = sym (length-map ns (λ (n : Placed). position_at view n.at)) ∙ ap length q.all

  pub placed_at : (ps : List KeyBits) (ns : List Placed) → IsQueue view test ps ns → (i : ℕ) (n : Placed) → i < length ns → n ≡ get_or ns i n → IsPlaced view test n
  placed_at ps ns q i n l e = subst (IsPlaced view test) (sym e) (all_at (IsPlaced view test) ns i n l q.each)

-- ---- sums

pub count_filter : {A : Type 0} (t : KeyBits → Bool) (h : A → KeyBits) (cs : List A) → length (filter t (map h cs)) ≡ count_true (map (λ c. t (h c)) cs)
count_filter t h [] = refl
count_filter t h (c ∷ cs) = elim (t (h c)) as (λ b. length (cond b (h c ∷ filter t (map h cs)) (filter t (map h cs))) ≡ cond b 1 0 + count_true (map (λ c. t (h c)) cs)) [
  | true ↦ let ih = count_filter t h cs in omega arith
  | false ↦ let ih = count_filter t h cs in omega arith
]

sum_same : (g h : KeyBits → ℕ) (ps : List KeyBits) → ((p : KeyBits) → g p ≡ h p) → sum_of g ps ≡ sum_of h ps
sum_same g h [] e = refl
sum_same g h (p ∷ ps) e = λ i. e p i + sum_same g h ps e i

module _ {V : Type 0} (m : KeyMap V) where
  -- the child bits of all positions count each but the root's
  pub children_total : 1 + sum_of (λ p. bits_set (child_bits (stands_in (positions_in m)) p)) (positions_in m) ≡ length (positions_in m)
  children_total =
      ap (λ n. 1 + n) (sum_same _ _ (positions_in m) (λ p. kids_fit (finite.get m) (stands_in (positions_in m)) p ∙ sym (count_filter (stands_in (positions_in m)) (λ c. p ++ c) child_places)))
      ∙ out_count (positions_below (finite.keys m)) ([] ∷ []) (positions_in m) (positions_come_out (finite.keys m))

  marks_sum : (ps : List KeyBits) → marks_in (map (shape_at (finite.get m) (stands_in (positions_in m))) ps) ≡ sum_of (λ p. bits_set (data_bits (finite.get m) p)) ps
  marks_sum [] = refl
  marks_sum (p ∷ ps) = λ i. sym (marks_fit (finite.get m) (stands_in (positions_in m)) p) i + marks_sum ps i

  -- the data bits of all positions count the entries
  pub entries_total : sum_of (λ p. bits_set (data_bits (finite.get m) p)) (positions_in m) ≡ finite.len m
  entries_total =
      sym (marks_sum (positions_in m))
      ∙ ap marks_in (shapes_at (finite.get m) (stands_in (positions_in m)) (positions_in m))
      ∙ sym (entries_counted (longest (keys_in m)) m (λ k some. within_longest (keys_in m) k (stands_in-keys m k ∙ some)))
      ∙ sym (finite.len-entries m)

-- ---- what is left to write

pub data_small : {V : Type 0} (f : KeyBits → Option V) (p : KeyBits) → data_bits f p < 2 ^ 32
data_small f p =
    let size : length (map (λ s. is_some (f (p ++ s))) data_places) ≡ 31 = length-map data_places (λ s. is_some (f (p ++ s))) ∙ count_places in
    let small : data_bits f p < 2 ^ 31 = subst (λ n. data_bits f p < 2 ^ n) size (bitmap-lt (map (λ s. is_some (f (p ++ s))) data_places)) in omega arith

pub children_small : (w : KeyBits → Bool) (p : KeyBits) → child_bits w p < 2 ^ 32
children_small w p =
    let size : length (map (λ c. w (p ++ c)) child_places) ≡ 32 = length-map child_places (λ c. w (p ++ c)) ∙ count_children in
    subst (λ n. child_bits w p < 2 ^ n) size (bitmap-lt (map (λ c. w (p ++ c)) child_places))

module _ {T : Type 0} (view : TableView T) where
  abbrev pub records_left : ℕ → ℕ → ℕ → List ℕ
  records_left a b i = flat_map record_bytes (records (finite.get view.entries) (is_written view) a b (drop i (positions_in view.entries)))

  pub records_end : (ns : List Placed) → IsQueue view (is_written view) (positions_in view.entries) ns → (a b i : ℕ) → length ns ≤ i → records_left a b i ≡ []
  records_end ns q a b i l = ap (λ ps. flat_map record_bytes (records (finite.get view.entries) (is_written view) a b ps)) (queue_end view (is_written view) (positions_in view.entries) ns q i l)

  abbrev pub entries_left : ℕ → ℕ
  entries_left i = sum_of (λ p. bits_set (data_bits (finite.get view.entries) p)) (drop i (positions_in view.entries))

  abbrev pub nodes_left : ℕ → ℕ
  nodes_left i = sum_of (λ p. bits_set (child_bits (is_written view) p)) (drop i (positions_in view.entries))

  -- the record of node i, with the bits that it adds to the sums
  pub record IsRecord (i : ℕ) (n : Placed) (r : NodeRecord) (more_entries more_nodes : ℕ) : Type 0 where
    pub next : drop i (positions_in view.entries) ≡ position_at view n.at ∷ drop (i + 1) (positions_in view.entries)
    pub data_is : r.data_bits ≡ data_bits (finite.get view.entries) (position_at view n.at)
    pub child_is : r.child_bits ≡ child_bits (is_written view) (position_at view n.at)
    pub entries_is : more_entries ≡ ones r.data_bits
    pub nodes_is : more_nodes ≡ ones r.child_bits

  abbrev pub record_of : Placed → ℕ → ℕ → NodeRecord
  record_of n a b = record { data_bits = n.data_bits; child_bits = n.child_bits; data_index = a; child_index = b }

  pub placed_record : (ns : List Placed) → IsQueue view (is_written view) (positions_in view.entries) ns → (i : ℕ) (n : Placed) → i < length ns → n ≡ get_or ns i n → (a b : ℕ) → IsRecord i n (record_of n a b) (ones n.data_bits) (ones n.child_bits)
  placed_record ns q i n l e a b =
      let placed = placed_at view (is_written view) (positions_in view.entries) ns q i n l e in
      record { next = queue_at view (is_written view) (positions_in view.entries) ns q i n l e; data_is = placed.data_is; child_is = placed.children; entries_is = refl; nodes_is = refl }

  module _ (i : ℕ) (n : Placed) (r : NodeRecord) (x y : ℕ) (s : IsRecord i n r x y) where
    entries_set : x ≡ bits_set (data_bits (finite.get view.entries) (position_at view n.at))
    entries_set = s.entries_is ∙ ap ones s.data_is ∙ sym (bits_set-count_ones (data_bits (finite.get view.entries) (position_at view n.at)) (data_small (finite.get view.entries) (position_at view n.at)))

    nodes_set : y ≡ bits_set (child_bits (is_written view) (position_at view n.at))
    nodes_set = s.nodes_is ∙ ap ones s.child_is ∙ sym (bits_set-count_ones (child_bits (is_written view) (position_at view n.at)) (children_small (is_written view) (position_at view n.at)))

    pub entries_step : entries_left i ≡ x + entries_left (i + 1)
    entries_step = ap (sum_of (λ p. bits_set (data_bits (finite.get view.entries) p))) s.next ∙ ap (λ k. k + entries_left (i + 1)) (sym entries_set)

    pub nodes_step : nodes_left i ≡ y + nodes_left (i + 1)
    nodes_step = ap (sum_of (λ p. bits_set (child_bits (is_written view) p))) s.next ∙ ap (λ k. k + nodes_left (i + 1)) (sym nodes_set)

    pub records_step : records_left r.data_index r.child_index i ≡ record_bytes r ++ records_left (r.data_index + x) (r.child_index + y) (i + 1)
    records_step =
        ap (λ ps. flat_map record_bytes (records (finite.get view.entries) (is_written view) r.data_index r.child_index ps)) s.next
        ∙ (λ j. record_bytes (let q : NodeRecord = record { data_bits = sym s.data_is j; child_bits = sym s.child_is j; data_index = r.data_index; child_index = r.child_index } in q) ++ records_left (r.data_index + sym entries_set j) (r.child_index + sym nodes_set j) (i + 1))
