-- Kept positions above a key and towards it.
use Rattle.std.specs.Prelude.{◌≡◌, ℕ, zero, suc, ◌+◌, ◌-◌, ◌*◌, ◌/◌, ◌%◌, ◌<◌, ◌≤◌, true, false, [], ◌∷◌, ◌++◌, length, take, drop, IsSome, is_some, None, Some, cond}
use Rattle.std.proofs.Common.{refl, sym, ap, ◌∙◌, subst, arith, length-append, length-take, length-drop, append_assoc}
use Rattle.std.specs.FinMap.{get, contains_key}
use Rattle.prefix_model.specs.Keys.{KeyBits}
use Rattle.prefix_model.specs.Tables.{KeyMap}
use Rattle.prefix_model.specs.Positions.{PositionSet}
use Rattle.prefix_model.specs.Walks.{begins_with, node_of, KeepsPositions}
use Rattle.prefix_model.specs.Views.{Seen, moved, node, held, IsPlace, IsShownAt, IsOnWay, LeadsTo, CanFind}
use Rattle.prefix_model.proofs.Fronts.{take_drop, append_none, follows, taken_front, front_of_front, front_within}
use Rattle.prefix_model.proofs.Nodes.{parts, node_near, node_front, node_itself}

no_bits : (r : KeyBits) → length r ≡ 0 → r ≡ []
no_bits [] e = refl
no_bits (b ∷ r) e = absurd (omega (arith, e))

module _ {V : Type 0} (w : ℕ) (m : KeyMap V) (kept : PositionSet) (keeps : KeepsPositions w m kept) where
  kept_by : (n : ℕ) (p r : KeyBits) → length r ≡ 5 * n → contains_key kept (p ++ r) ≡ true → contains_key kept p ≡ true
  kept_by zero p r e k = subst (λ x. contains_key kept x ≡ true) (ap (λ s. p ++ s) (no_bits r (omega (arith, e))) ∙ append_none p) k
  kept_by (suc n) p r e k =
      let a = take (5 * n) r in
      let b = drop (5 * n) r in
      let la = length-take (5 * n) r in
      let lb = length-drop (5 * n) r in
      let long : length b ≡ 5 = omega (arith, e, lb) in
      let whole : p ++ r ≡ (p ++ a) ++ b = ap (λ s. p ++ s) (take_drop (5 * n) r) ∙ sym (append_assoc p a b) in
      kept_by n p a (omega (arith, e, la)) (keeps.above (p ++ a) b long (subst (λ x. contains_key kept x ≡ true) whole k))

  -- each front of a kept position that has a node's length is kept
  pub kept_front : (p q : KeyBits) → length p % 5 ≡ 0 → length q % 5 ≡ 0 → begins_with p q ≡ true → contains_key kept q ≡ true → contains_key kept p ≡ true
  kept_front p q e f is k =
      let s = follows p q is in
      let l = ap length s.whole ∙ length-append p s.rest in
      let n : length s.rest ≡ 5 * (length s.rest / 5) = omega (arith, e, f, l) in
      kept_by (length s.rest / 5) p s.rest n (subst (λ x. contains_key kept x ≡ true) s.whole k)

  -- where a position towards a key is not kept, the node of the key is not
  pub node_gone : (bits : KeyBits) (len n : ℕ) → n % 5 ≡ 0 → n + 5 ≤ len → len ≤ length bits → contains_key kept (take (n + 5) bits) ≡ false → contains_key kept (node_of (take len bits)) ≡ false
  node_gone bits len n five below within gone =
      let k = take len bits in
      let q = take (n + 5) bits in
      let lk = length-take len bits in
      let lq = length-take (n + 5) bits in
      let near = node_near k in
      let at_five = (parts k).at_five in
      let front = front_of_front q (node_of k) k (taken_front bits (n + 5) len below) (node_front k) (omega (arith, lk, lq, near, at_five, five, below, within)) in
      elim (contains_key kept (node_of k)) as (λ b. contains_key kept (node_of k) ≡ b → b ≡ false) [
        | true ↦ λ e. let there = kept_front q (node_of k) (omega (arith, lq, five, below, within)) at_five front e in cc
        | false ↦ λ e. refl
      ] refl

module _ {V : Type 0} (w : ℕ) (v u : Seen V) (at : IsPlace w u) (bits : KeyBits) (len : ℕ) (way : IsOnWay v u (take len bits)) where
  pub towards_child : (c : Seen V) → length (node u) + 5 ≤ len → c ≡ moved u (take (length (node u) + 5) bits) → IsOnWay v c (take len bits)
  towards_child c l e = record {
    entries = ap (λ x. x.entries) e ∙ way.entries;
    kept = ap (λ x. x.kept) e ∙ way.kept;
    above = subst (λ x. begins_with x.place (take len bits) ≡ true) (sym e) (taken_front bits (length (node u) + 5) len l);
  }

  pub towards_extends : begins_with u.place (take (length (node u) + 5) bits) ≡ true
  towards_extends = let n = node_near u.place in front_within u.place bits len (length (node u) + 5) (omega (arith, n)) way.above

  pub towards_none : length (node u) + 5 ≤ len → len ≤ length bits → contains_key u.kept (take (length (node u) + 5) bits) ≡ false → contains_key v.kept (node_of (take len bits)) ≡ false
  towards_none l within gone =
      let none = node_gone w u.entries u.kept at.keeps bits len (length (node u)) ((parts u.place).at_five) l within gone in
      ap (λ s. contains_key s (node_of (take len bits))) (sym way.kept) ∙ none

  pub towards_deeper : (c : Seen V) → length (node u) + 5 ≤ len → len ≤ length bits → c ≡ moved u (take (length (node u) + 5) bits) → len - length (node c) < len - length (node u)
  towards_deeper c l within e =
      let q = take (length (node u) + 5) bits in
      let lq = length-take (length (node u) + 5) bits in
      let five = (parts u.place).at_five in
      let n : length (node c) ≡ length q = ap (λ x. length (node x)) e ∙ ap length (node_itself q (omega (arith, lq, five, l, within))) in
      omega (arith, n, lq, l, within)

  pub leads : len < length (node u) + 5 → LeadsTo v u (take len bits)
  leads l = let t = length-take len bits in record { way = way; near = omega (arith, l, t) }

module _ {V : Type 0} where
  pub moved_on_way : (v u : Seen V) (k l : KeyBits) → IsOnWay v u k → moved u l ≡ moved v l
  moved_on_way v u k l way = λ i. record { entries = way.entries i; kept = way.kept i; place = l }

  -- the node of a stored key is kept
  pub stored_node : (w : ℕ) (m : KeyMap V) (kept : PositionSet) → KeepsPositions w m kept → (k : KeyBits) → IsSome (get m k) → contains_key kept (node_of k) ≡ true
  stored_node w m kept keeps k h =
      let q = parts k in
      keeps.stored (node_of k) q.inner q.at_five (subst (λ x. IsSome (get m x)) q.whole h)

  pub held_none : (w : ℕ) (v : Seen V) → IsPlace w v → (k : KeyBits) → (begins_with v.place k ≡ true → contains_key v.kept (node_of k) ≡ false) → held v k ≡ None
  held_none w v at k gone =
      elim (begins_with v.place k) as (λ b. begins_with v.place k ≡ b → cond b (get v.entries k) None ≡ None) [
        | true ↦ λ f. elim (get v.entries k) as (λ o. get v.entries k ≡ o → o ≡ None) [
          | None ↦ λ e. refl
          | Some x ↦ λ e. let there = stored_node w v.entries v.kept at.keeps k (ap is_some e) in let n = gone f in cc
        ] refl
        | false ↦ λ f. refl
      ] refl

  pub held_at : (v u : Seen V) (k : KeyBits) → u ≡ moved v k → begins_with v.place k ≡ true → get u.entries u.place ≡ held v k
  held_at v u k e f = ap (λ x. get x.entries x.place) e ∙ sym (ap (λ b. cond b (get v.entries k) None) f)

  pub found : (v u : Seen V) (k : KeyBits) → u ≡ moved v k → begins_with v.place k ≡ true → IsShownAt u u.place → CanFind v k
  found v u k e f s = record { below = f; shown = subst (λ x. IsShownAt x x.place) e s }

  pub hidden : (v u : Seen V) (k : KeyBits) → u ≡ moved v k → (IsShownAt u u.place → ⊥) → CanFind v k → ⊥
  hidden v u k e s can = s (subst (λ x. IsShownAt x x.place) (sym e) can.shown)
