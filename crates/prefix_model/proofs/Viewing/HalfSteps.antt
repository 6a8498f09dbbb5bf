-- A stored key below one half of a place makes that half shown.
use Rattle.std.specs.Prelude.{◌≡◌, ◌≢◌, ℕ, ◌+◌, ◌%◌, ◌≤◌, Bool, true, false, [], ◌∷◌, ◌++◌, length, take, drop, IsSome, nat_lt}
use Rattle.std.specs.FinMap.{get, contains_key}
use Rattle.std.proofs.Common.{refl, sym, ap, ◌∙◌, subst, arith, length-append, length-take, append_assoc}
use borrow.Author.Tests.{ltb-true, ltb-false}
use Rattle.prefix_model.specs.Keys.{KeyBits}
use Rattle.prefix_model.specs.Walks.{begins_with, node_of, Shows}
use Rattle.prefix_model.specs.Walks.Shows.{entry, child}
use Rattle.prefix_model.specs.Views.{Seen, node, IsPlace, CanStep}
use Rattle.prefix_model.proofs.Fronts.{take_drop, front_take, front_length, front_cut}
use Rattle.prefix_model.proofs.Nodes.{parts, node_is, node_near}

module _ {V : Type 0} (w : ℕ) (v : Seen V) (at : IsPlace w v) (b : Bool) (q : KeyBits) (stored : IsSome (get v.entries q)) (front : begins_with (v.place ++ b ∷ []) q ≡ true) where
  longer : length v.place + 1 ≤ length q
  longer = let l = front_length (v.place ++ b ∷ []) q front in let a = length-append v.place (b ∷ []) in omega (arith, l, a)

  -- a kept position on the way to q
  position : (n : ℕ) → n % 5 ≡ 0 → n ≤ length q → contains_key v.kept (take n q) ≡ true
  position n five l =
      let t = length-take n q in
      at.keeps.stored (take n q) (drop n q) (omega (arith, five, l, t)) (subst (λ x. IsSome (get v.entries x)) (take_drop n q) stored)

  same_node : length v.place % 5 ≢ 4 → node_of (v.place ++ b ∷ []) ≡ node v
  same_node n =
      let p = parts v.place in
      let l = ap length p.whole ∙ length-append (node v) p.inner in
      let five = p.at_five in
      let short = p.short in
      let a = length-append p.inner (b ∷ []) in
      ap node_of (ap (λ x. x ++ b ∷ []) p.whole ∙ append_assoc (node v) p.inner (b ∷ [])) ∙ node_is (node v) (p.inner ++ b ∷ []) five (omega (arith, l, five, short, a, n))

  shows : node_of (v.place ++ b ∷ []) ≡ node v → Shows v.entries v.kept (v.place ++ b ∷ [])
  shows e =
      let n = ap length e in
      let five = (parts v.place).at_five in
      let near = node_near v.place in
      let a = length-append v.place (b ∷ []) in
      elim (nat_lt (length q) (length (node v) + 5)) as (λ t. nat_lt (length q) (length (node v) + 5) ≡ t → Shows v.entries v.kept (v.place ++ b ∷ [])) [
        | true ↦ λ t. let l = ltb-true _ _ t in entry q front stored (omega (arith, n, l))
        | false ↦ λ t.
            let l = ltb-false _ _ t in
            let m = length-take (length (node v) + 5) q in
            child (take (length (node v) + 5) q) (front_cut (v.place ++ b ∷ []) q (length (node v) + 5) (omega (arith, near, a)) front) (position (length (node v) + 5) (omega (arith, five)) (omega (arith, l))) (omega (arith, n, m, l))
      ] refl

  -- a stored key below one half of the place makes that half shown
  pub can_step : CanStep w v b
  can_step = record {
    within = let l = longer in let u = at.keeps.width q stored in omega (arith, l, u);
    same_node = λ n. let e = same_node n in record { node = ap (contains_key v.kept) e ∙ at.kept; below = shows e };
    to_child = λ n.
        let a = length-append v.place (b ∷ []) in
        let l = longer in
        let t = position (length (v.place ++ b ∷ [])) (omega (arith, a, n)) (omega (arith, a, l)) in
        ap (contains_key v.kept) (sym (front_take (v.place ++ b ∷ []) q front)) ∙ t;
  }
