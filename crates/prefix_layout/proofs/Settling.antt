-- The nodes from the last to the first: which children hold something, and which nodes are left out.
use Rattle.std.proofs.Common.{◌≡◌, ℕ, zero, suc, ◌+◌, ◌-◌, ◌^◌, ◌<◌, ◌≤◌, Bool, true, false, cond, List, [], ◌∷◌, ◌++◌, length, map, take, drop, get_or, refl, sym, ap, ◌∙◌, subst, arith, append_assoc, length-append, length-take}
use Rattle.std.specs.List.{AllByRecursion, filter, flat_map}
use Rattle.std.specs.FinMap as finite
use Rattle.std.proofs.Math.ListN.{set, length-set}
use Rattle.std.proofs.lemmas.List.{append-nil, length-map, drop_more, take_more, take_all, drop_all, take-append-drop, take-take, take-map, take-set, take_at, drop_at, drop-drop, drop-set, drop-set-lt, take_more_set, map-set, set-get_or, get_or-take}
use Rattle.std.proofs.lemmas.List.Concat.{flat_map-append}
use lib.Count.{ones}
use Rattle.prefix_model.specs.Keys.{KeyBits, low_bits}
use Rattle.prefix_model.specs.Masks.{set_bits}
use Rattle.prefix_model.specs.Positions.{positions_in, child_bits, child_places}
use Rattle.prefix_model.proofs.Archive.Levels.{five_bits}
use Rattle.prefix_model.proofs.Archive.Numbers.{bits_set-count_ones}
use Rattle.prefix_model.proofs.Archive.Ordered.{OfLength}
use Rattle.prefix_model.proofs.Archive.Spelled.{kids_fit}
use Rattle.prefix_model.proofs.KeyLemmas.{all_append, all_filter}
use Rattle.prefix_model.specs.TableViews.{TableView, HoldsPositions, position_at}
use Rattle.prefix_layout.specs.declared.write.Placed.{Placed}
use Rattle.prefix_layout.specs.Writing.{is_written, is_kept, kept_positions, children_where, positions_of_nodes, IsPlaced, IsQueue, is_filled, filled_bits}
use Rattle.prefix_layout.proofs.Below.{child_length}
use Rattle.prefix_layout.proofs.Queue.{all_at, position_number, children_small, count_filter}
use Rattle.prefix_layout.proofs.Kept.{kept_come_out, out_is, out_ahead, root_written, written_of_kept, written_kept, written_filled}
use Rattle.prefix_layout.proofs.SetBits.{children_named, filled_passed, passed_children}

-- ---- the children that are filled

-- in the sum of the filled children, those of the bits bs are left
pub record Filling (filled next : ℕ) (bs : List ℕ) (ns : List Placed) (total : ℕ) : Type 0 where
  pub sum : filled + filled_bits bs (drop next ns) ≡ total
  pub len : next + length bs ≡ length ns
  pub small : AllByRecursion (λ b. b < 32) bs

pub filled_next : (filled next b : ℕ) (bs : List ℕ) (ns : List Placed) (n : Placed) (total : ℕ) → Filling filled next (b ∷ bs) ns total → n ≡ get_or ns next n → filled + (cond (is_filled n) (2 ^ b) 0 + filled_bits bs (drop (next + 1) ns)) ≡ total
filled_next filled next b bs ns n total h e =
    let l : next < length ns = omega (arith, h.len) in
    ap (λ ms. filled + filled_bits (b ∷ bs) ms) ((λ i. e i ∷ drop (next + 1) ns) ∙ sym (drop_more ns next n l)) ∙ h.sum

-- ---- lists

all_drop : {A : Type 0} (P : A → Type 0) (i : ℕ) (xs : List A) → AllByRecursion P xs → AllByRecursion P (drop i xs)
all_drop P zero xs h = h
all_drop P (suc i) [] h = tt
all_drop P (suc i) (x ∷ xs) h = all_drop P i xs h.1

all_take : {A : Type 0} (P : A → Type 0) (i : ℕ) (xs : List A) → AllByRecursion P xs → AllByRecursion P (take i xs)
all_take P zero xs h = tt
all_take P (suc i) [] h = tt
all_take P (suc i) (x ∷ xs) h = (h.0, all_take P i xs h.1)

map_drop : {A B : Type 0} (f : A → B) (i : ℕ) (xs : List A) → map f (drop i xs) ≡ drop i (map f xs)
map_drop f zero xs = refl
map_drop f (suc i) [] = refl
map_drop f (suc i) (x ∷ xs) = map_drop f i xs

middle : {A : Type 0} (x : A) (a b c : List A) (n m : ℕ) → n ≡ 1 + length a → m ≡ length b → take m (drop n (x ∷ (a ++ (b ++ c)))) ≡ b
middle x a b c n m e f =
    let more : n ≡ suc (length a) = omega arith in
    (λ i. take (f i) (drop (more i) (x ∷ (a ++ (b ++ c))))) ∙ ap (take (length b)) (drop_at a (b ++ c) (length a) refl) ∙ take_at b c (length b) refl

long_children : (test : KeyBits → Bool) (p : KeyBits) (cs : List KeyBits) → OfLength 5 cs → AllByRecursion (λ q. 0 < length q) (filter test (map (λ c. p ++ c) cs))
long_children test p cs h = all_filter (λ (q : KeyBits). 0 < length q) test (map (λ c. p ++ c) cs) (go cs h)
  where
    go : (cs : List KeyBits) → OfLength 5 cs → AllByRecursion (λ q. 0 < length q) (map (λ c. p ++ c) cs)
    go [] h = tt
    go (c ∷ cs) h = (omega (arith, h.0, length-append p c), go cs h.1)

module _ {T : Type 0} (view : TableView T) (holds : HoldsPositions view) where
  abbrev kept : KeyBits → Bool
  kept = is_kept view

  abbrev follow : KeyBits → List KeyBits
  follow = children_where (is_kept view)

  abbrev ps : List KeyBits
  ps = kept_positions view

  parts : ps ≡ [] ∷ flat_map follow ps
  parts = out_is follow ([] ∷ []) ps (kept_come_out view holds)

  long_all : (qs : List KeyBits) → AllByRecursion (λ q. 0 < length q) (flat_map follow qs)
  long_all [] = tt
  long_all (q ∷ qs) = all_append (λ (q : KeyBits). 0 < length q) (follow q) (flat_map follow qs) (long_children kept q child_places five_bits) (long_all qs)

  tells_filled : (q : KeyBits) (bs : List ℕ) (ns : List Placed) → positions_of_nodes view ns ≡ map (λ b. q ++ low_bits 5 b) bs → AllByRecursion (IsPlaced view (is_written view)) ns → AllByRecursion (λ n. is_written view (position_at view n.at) ≡ is_filled n) ns
  tells_filled q bs [] e h = tt
  tells_filled q [] (n ∷ ns) e h = cc
  tells_filled q (b ∷ bs) (n ∷ ns) e h =
      let first : position_at view n.at ≡ q ++ low_bits 5 b = cc in
      let rest : positions_of_nodes view ns ≡ map (λ b. q ++ low_bits 5 b) bs = cc in
      let long : 0 < length (position_at view n.at) = omega (arith, ap length first, child_length q b) in
      (written_filled view holds n h.0 long, tells_filled q bs ns rest h.1)

  -- ---- from the last node to the first

  -- the nodes from i on are settled, and their children stand at end and behind it
  pub record Settling (ns : List Placed) (i end : ℕ) : Type 0 where
    pub at : positions_of_nodes view ns ≡ ps
    pub before : AllByRecursion (IsPlaced view kept) (take i ns)
    pub behind : AllByRecursion (IsPlaced view (is_written view)) (drop i ns)
    pub within : i ≤ length ns
    pub end_is : end ≡ 1 + length (flat_map follow (take i ps))

  settle_first : (ns : List Placed) → IsQueue view kept ps ns → Settling ns (length ns) (length ns)
  settle_first ns q =
      let size : length ns ≡ length ps = sym (length-map ns (λ (n : Placed). position_at view n.at)) ∙ ap length q.all in
      record {
        at = q.all;
        before = subst (AllByRecursion (IsPlaced view kept)) (sym (take_all (length ns) ns (omega arith))) q.each;
        behind = subst (AllByRecursion (IsPlaced view (is_written view))) (sym (drop_all (length ns) ns (omega arith))) tt;
        within = omega arith;
        end_is = size ∙ ap length parts ∙ (let one : length ([] ∷ flat_map follow ps) ≡ 1 + length (flat_map follow ps) = omega arith in one) ∙ ap (λ qs. 1 + length (flat_map follow qs)) (sym (take_all (length ns) ps (omega arith)));
      }

  pub settle_from : (ns : List Placed) (i end : ℕ) → i ≡ length ns → end ≡ length ns → IsQueue view kept ps ns → Settling ns i end
  settle_from ns i end e f q = subst (λ i. Settling ns i end) (sym e) (subst (Settling ns (length ns)) (sym f) (settle_first ns q))

  -- the k nodes in front of end
  abbrev pub nodes_before : List Placed → ℕ → ℕ → List Placed
  nodes_before ns end k = take (end - (end - k)) (drop (end - k) ns)

  -- node j, whose children are next
  pub record SettlesNode (ns : List Placed) (j end : ℕ) (n : Placed) : Type 0 where
    pub few : ones n.child_bits ≤ end
    pub end_within : end ≤ length ns
    pub bits_count : length (nodes_before ns end (ones n.child_bits)) ≡ length (set_bits n.child_bits)
    pub filled : filled_bits (set_bits n.child_bits) (nodes_before ns end (ones n.child_bits)) ≡ child_bits (is_written view) (position_at view n.at)
    pub small : child_bits (is_written view) (position_at view n.at) < 2 ^ 32
    pub next : (m : Placed) → m ≡ (let r : Placed = record { at = n.at; data_bits = n.data_bits; child_bits = child_bits (is_written view) (position_at view n.at) } in r) → Settling (set ns j m) j (end - ones n.child_bits)

  settle_next : (ns : List Placed) (j end : ℕ) (n : Placed) → Settling ns (j + 1) end → n ≡ get_or ns j n → SettlesNode ns j end n
  settle_next ns j end n h e =
      let w = is_written view in
      let q = position_at view n.at in
      let l : j < length ns = omega (arith, h.within) in
      let size : length ns ≡ length ps = sym (length-map ns (λ (n : Placed). position_at view n.at)) ∙ ap length h.at in
      let lp : j < length ps = omega arith in
      let here : get_or ps j [] ≡ q = ap (λ qs. get_or qs j []) (sym h.at) ∙ position_number view kept ns j n l e in
      let long : j < length (take (j + 1) ns) = omega (arith, length-take (j + 1) ns) in
      let front : n ≡ get_or (take (j + 1) ns) j n = e ∙ sym (get_or-take (j + 1) ns j n (omega arith)) in
      let placed : IsPlaced view kept n = subst (IsPlaced view kept) (sym front) (all_at (IsPlaced view kept) (take (j + 1) ns) j n long h.before) in
      let a = flat_map follow (take j ps) in
      let b = follow q in
      let c = flat_map follow (drop (j + 1) ps) in
      let taken : flat_map follow (take (j + 1) ps) ≡ a ++ b = ap (flat_map follow) (take_more ps j [] lp) ∙ flat_map-append follow (take j ps) (get_or ps j [] ∷ []) ∙ ap (λ r. a ++ r) (append-nil (follow (get_or ps j [])) ∙ ap follow here) in
      let whole : ps ≡ [] ∷ (a ++ (b ++ c))
      = parts ∙ ap (λ qs. [] ∷ flat_map follow qs) (sym (take-append-drop j ps)) ∙ ap (λ r. [] ∷ r) (flat_map-append follow (take j ps) (drop j ps) ∙ ap (λ qs. a ++ flat_map follow qs) (drop_more ps j [] lp) ∙ ap (λ (k : KeyBits). a ++ (follow k ++ c)) here) in
      let count : ones n.child_bits ≡ length b = ap ones placed.children ∙ sym (bits_set-count_ones (child_bits kept q) (children_small kept q)) ∙ kids_fit (finite.get view.entries) kept q ∙ sym (count_filter kept (λ c. q ++ c) child_places) in
      let ends : end ≡ 1 + (length a + length b) = h.end_is ∙ ap (λ r. 1 + length r) taken ∙ ap (λ m. 1 + m) (length-append a b) in
      let first : ℕ = end - ones n.child_bits in
      let first_is : first ≡ 1 + length a = omega arith in
      let total = ap length whole in
      let ab = length-append a (b ++ c) in
      let bc = length-append b c in
      let within : end ≤ length ns = omega arith in
      let ahead = out_ahead follow ([] ∷ []) ps j (kept_come_out view holds) lp in
      let many : ℕ = end - first in
      let many_is : many ≡ length b = omega arith in
      let children = take many (drop first ns) in
      let stand : positions_of_nodes view children ≡ b
      = sym (take-map (λ (n : Placed). position_at view n.at) many (drop first ns)) ∙ ap (take many) (map_drop (λ (n : Placed). position_at view n.at) first ns ∙ ap (drop first) (h.at ∙ whole)) ∙ middle [] a b c first many first_is many_is in
      let named : b ≡ map (λ b. q ++ low_bits 5 b) (set_bits n.child_bits) = children_named kept q n.child_bits placed.children in
      let skipped : drop first ns ≡ drop (first - (j + 1)) (drop (j + 1) ns) = (let d : first ≡ (j + 1) + (first - (j + 1)) = omega arith in ap (λ m. drop m ns) d) ∙ sym (drop-drop (first - (j + 1)) (j + 1) ns) in
      let settled : AllByRecursion (IsPlaced view w) children = all_take (IsPlaced view w) many (drop first ns) (subst (AllByRecursion (IsPlaced view w)) (sym skipped) (all_drop (IsPlaced view w) (first - (j + 1)) (drop (j + 1) ns) h.behind)) in
      record {
        few = omega arith;
        end_within = within;
        bits_count = sym (length-map children (λ (n : Placed). position_at view n.at)) ∙ ap length (stand ∙ named) ∙ length-map (set_bits n.child_bits) (λ b. q ++ low_bits 5 b);
        filled =
            filled_passed view w q (set_bits n.child_bits) children (stand ∙ named) (tells_filled q (set_bits n.child_bits) children (stand ∙ named) settled)
            ∙ passed_children w kept q n.child_bits placed.children (written_kept view holds);
        small = children_small w q;
        next = λ m same. record {
          at = map-set (λ (n : Placed). position_at view n.at) ns j m ∙ (λ i. set (h.at i) j (position_at view (same i).at)) ∙ ap (set ps j) (sym here) ∙ set-get_or ps j [];
          before = subst (AllByRecursion (IsPlaced view kept)) (sym (take-set ns j m)) (subst (AllByRecursion (IsPlaced view kept)) (take-take j (j + 1) ns (omega arith)) (all_take (IsPlaced view kept) j (take (j + 1) ns) h.before));
          behind = subst (AllByRecursion (IsPlaced view w)) (sym (drop-set ns j m l)) (subst (IsPlaced view w) (sym same) record { named = placed.named; data_is = placed.data_is; children = refl }, h.behind);
          within = omega (arith, length-set ns j m);
          end_is = first_is;
        };
      }

  pub settle_at : (ns : List Placed) (i end : ℕ) (n : Placed) → 0 < i → Settling ns i end → n ≡ get_or ns (i - 1) n → SettlesNode ns (i - 1) end n
  settle_at ns i end n l h e = let same : i ≡ i - 1 + 1 = omega arith in settle_next ns (i - 1) end n (subst (λ j. Settling ns j end) same h) e

  pub settle_last : (ns : List Placed) (i end : ℕ) → i ≡ 0 → Settling ns i end → IsQueue view (is_written view) ps ns
  settle_last ns i end z h = record { all = h.at; each = subst (λ j. AllByRecursion (IsPlaced view (is_written view)) (drop j ns)) z h.behind }

  -- ---- nodes that hold nothing are left out

  filled_are_written : (ns : List Placed) → AllByRecursion (IsPlaced view (is_written view)) ns → AllByRecursion (λ q. 0 < length q) (positions_of_nodes view ns) → positions_of_nodes view (filter is_filled ns) ≡ filter (is_written view) (positions_of_nodes view ns)
  filled_are_written [] h l = refl
  filled_are_written (n ∷ ns) h l = go (is_written view (position_at view n.at)) refl (is_filled n) refl (filled_are_written ns h.1 l.1)
    where
      go : (b : Bool) → is_written view (position_at view n.at) ≡ b → (c : Bool) → is_filled n ≡ c → positions_of_nodes view (filter is_filled ns) ≡ filter (is_written view) (positions_of_nodes view ns) → positions_of_nodes view (cond c (n ∷ filter is_filled ns) (filter is_filled ns)) ≡ cond b (position_at view n.at ∷ filter (is_written view) (positions_of_nodes view ns)) (filter (is_written view) (positions_of_nodes view ns))
      go true e true d ih = ap (λ qs. position_at view n.at ∷ qs) ih
      go false e false d ih = ih
      go true e false d ih = absurd (let same = written_filled view holds n h.0 l.0 in cc)
      go false e true d ih = absurd (let same = written_filled view holds n h.0 l.0 in cc)

  pub written_queue : (ns ms : List Placed) → IsQueue view (is_written view) ps ns → ms ≡ take 1 ns ++ filter is_filled (drop 1 ns) → IsQueue view (is_written view) (positions_in view.entries) ms
  written_queue [] ms q e = absurd (let none = q.all ∙ parts in cc)
  written_queue (n ∷ ns) ms q e =
      let rest = flat_map follow ps in
      let all = q.all ∙ parts in
      let first : position_at view n.at ≡ [] = cc in
      let others : positions_of_nodes view ns ≡ rest = cc in
      let long : AllByRecursion (λ q. 0 < length q) (positions_of_nodes view ns) = subst (AllByRecursion (λ q. 0 < length q)) (sym others) (long_all ps) in
      let queue : IsQueue view (is_written view) (positions_in view.entries) (n ∷ filter is_filled ns) = record {
        all =
            (λ i. first i ∷ (filled_are_written ns q.each.1 long ∙ ap (filter (is_written view)) others) i)
            ∙ ap (λ b. cond b ([] ∷ filter (is_written view) rest) (filter (is_written view) rest)) (sym (root_written view holds))
            ∙ ap (filter (is_written view)) (sym parts)
            ∙ written_of_kept view holds;
        each = (q.each.0, all_filter (IsPlaced view (is_written view)) is_filled ns q.each.1);
      } in
      subst (IsQueue view (is_written view) (positions_in view.entries)) (sym e) queue

-- what is left of a list without the nodes that hold nothing
pub record Dropping (ns : List Placed) (len i : ℕ) (whole : List Placed) : Type 0 where
  pub before : len ≤ i
  pub all : take len ns ++ filter is_filled (drop i ns) ≡ whole

pub drop_next : (ns : List Placed) (len i : ℕ) (n : Placed) (whole : List Placed) → i < length ns → n ≡ get_or ns i n → Dropping ns len i whole → take len ns ++ cond (is_filled n) (n ∷ filter is_filled (drop (i + 1) ns)) (filter is_filled (drop (i + 1) ns)) ≡ whole
drop_next ns len i n whole l e h = ap (λ ms. take len ns ++ filter is_filled ms) ((λ j. e j ∷ drop (i + 1) ns) ∙ sym (drop_more ns i n l)) ∙ h.all

pub keeps_node : (ns ms : List Placed) (len i : ℕ) (n : Placed) (whole : List Placed) → i < length ns → n ≡ get_or ns i n → Dropping ns len i whole → is_filled n ≡ true → ms ≡ set ns len n → Dropping ms (len + 1) (i + 1) whole
keeps_node ns ms len i n whole l e h filled same = record {
  before = omega (arith, h.before);
  all =
      (λ j. take (len + 1) (same j) ++ filter is_filled (drop (i + 1) (same j)))
      ∙ (λ j. take_more_set ns len n (omega (arith, h.before)) j ++ filter is_filled (drop-set-lt (i + 1) ns len n (omega (arith, h.before)) j))
      ∙ append_assoc (take len ns) (n ∷ []) (filter is_filled (drop (i + 1) ns))
      ∙ ap (λ b. take len ns ++ cond b (n ∷ filter is_filled (drop (i + 1) ns)) (filter is_filled (drop (i + 1) ns))) (sym filled)
      ∙ drop_next ns len i n whole l e h;
}

pub skips_node : (ns : List Placed) (len i : ℕ) (n : Placed) (whole : List Placed) → i < length ns → n ≡ get_or ns i n → Dropping ns len i whole → is_filled n ≡ false → Dropping ns len (i + 1) whole
skips_node ns len i n whole l e h empty = record {
  before = omega (arith, h.before);
  all = ap (λ b. take len ns ++ cond b (n ∷ filter is_filled (drop (i + 1) ns)) (filter is_filled (drop (i + 1) ns))) (sym empty) ∙ drop_next ns len i n whole l e h;
}

pub dropped : (ns : List Placed) (len i : ℕ) (whole : List Placed) → length ns ≤ i → Dropping ns len i whole → take len ns ≡ whole
dropped ns len i whole l h = sym (append-nil (take len ns)) ∙ ap (λ ms. take len ns ++ filter is_filled ms) (sym (drop_all i ns l)) ∙ h.all
