-- The least table of a set has the keys of the set aggregate.
use Rattle.std.proofs.Common.{◌≡◌, ℕ, ◌+◌, ◌<◌, ◌≤◌, Bool, true, false, cond, [], ◌∷◌, ◌++◌, length, length-append, refl, sym, ap, ◌∙◌, subst, arith, rules, Option, Some, None}
use Rattle.std.specs.Prelude.{is_some, IsSome, ◌||◌}
use mathlib.Core.Bool.{true≢false}
use Rattle.std.specs.declared.cmp.Ordering.{Ordering}
use Rattle.std.specs.Ordering.{is_eq}
use Rattle.std.specs.Cmp.{IsTotalOrder, tied_itself}
use Rattle.std.specs.FinMap as map
use Rattle.std.specs.FinMap.{IsAntisymmetric}
use Rattle.prefix_model.specs.Keys.{KeyBits}
use Rattle.prefix_model.specs.Tables.{KeyMap, answer}
use Rattle.prefix_model.specs.Candidates.{Candidates, least, offers}
use Rattle.prefix_model.specs.LeastTable.{stored, inherited, least_table, candidates_at, inherited_at}
use Rattle.prefix_model.specs.LeastLaws.{LeastAtKey}
use Rattle.prefix_model.specs.Coverage.{IsCovered}
use Rattle.prefix_model.specs.Aggregates.{IsSetAggregate, unit_cmp}
use Rattle.prefix_model.specs.AggregateLaws.{LeastIsSetAggregate, SetAggregateCovers, SetAggregateIsStable}
use Rattle.prefix_model.proofs.Order.{key_total, key_exact}
use Rattle.prefix_model.proofs.Fewest.Keys.{knows_each_key, tells_coverage}
use Rattle.prefix_model.proofs.Fewest.Tables.{keeps_width, keeps_answers, is_stable}

-- the key without its last bit
front : KeyBits → KeyBits
front [] = []
front (a ∷ []) = []
front (a ∷ b ∷ k) = a ∷ front (b ∷ k)

front-push : (p : KeyBits) (b : Bool) → front (p ++ b ∷ []) ≡ p
unfolding front
front-push [] b = refl
front-push (a ∷ []) b = refl
front-push (a ∷ c ∷ p) b = ap (λ r. a ∷ r) (front-push (c ∷ p) b)

same_front : (p q : KeyBits) (a b : Bool) → p ++ a ∷ [] ≡ q ++ b ∷ [] → p ≡ q
same_front p q a b e = sym (front-push p a) ∙ ap front e ∙ front-push q b

no_push : (p : KeyBits) (b : Bool) → [] ≡ p ++ b ∷ [] → ⊥
no_push [] b e = cc
no_push (a ∷ p) b e = cc

-- a key is empty or has a last bit
data Last (k : KeyBits) : Type 0 where
  first : k ≡ [] → Last k
  pushed : (p : KeyBits) (b : Bool) → k ≡ p ++ b ∷ [] → Last k

last_of : (k : KeyBits) → Last k
last_of [] = first refl
last_of (a ∷ k) = elim (last_of k) [
  | first e ↦ pushed [] a (ap (λ r. a ∷ r) e)
  | pushed p b e ↦ pushed (a ∷ p) b (ap (λ r. a ∷ r) e)
]

module _ {cmp : Unit {0} → Unit {0} → Ordering} (o : IsTotalOrder cmp) (exact : IsAntisymmetric cmp) where
  -- under the one value nothing is stored, and under none what is handed on
  stored_under : (c : Candidates (Unit {0})) (x : Unit {0}) → stored cmp c (Some x) ≡ None
  unfolding offers
  stored_under None x = refl
  stored_under (Some []) x = refl
  stored_under (Some (y ∷ l)) x = ap (λ t. cond (is_eq t || offers cmp l (Some x)) None (Some y)) (tied_itself o tt)

  stored_first : (c : Candidates (Unit {0})) → stored cmp c None ≡ inherited cmp c None
  unfolding offers
  stored_first None = refl
  stored_first (Some l) = refl

  module _ (w : ℕ) (m : KeyMap (Unit {0})) where
    at_key : (k : KeyBits) → length k ≤ w → LeastAtKey cmp w m k
    at_key k h = (knows_each_key o exact w m k h).1

    -- where nothing is handed down, a key is stored exactly where it is covered
    stored_alone : (k : KeyBits) → length k ≤ w → inherited_at cmp w m k ≡ None → map.get (least_table cmp w m) k ≡ answer (least_table cmp w m) k
    stored_alone k h e =
        (at_key k h).stored_there ∙ ap (stored cmp (candidates_at cmp w m k)) e ∙ stored_first (candidates_at cmp w m k)
        ∙ sym ((at_key k h).answered_there ∙ ap (inherited cmp (candidates_at cmp w m k)) e)

    -- what is handed down is the answer at the parent
    handed_parent : (p : KeyBits) (b : Bool) → length p < w → inherited_at cmp w m (p ++ b ∷ []) ≡ answer (least_table cmp w m) p
    handed_parent p b h = (at_key p (omega arith)).handed_on b h ∙ sym (at_key p (omega arith)).answered_there

    abbrev Member : KeyBits → Type 0
    Member k = (length k ≤ w) × IsCovered w m k × ((p : KeyBits) (b : Bool) → k ≡ p ++ b ∷ [] → ¬ IsCovered w m p)

    there : (k : KeyBits) → length k ≤ w → IsSome (map.get (least_table cmp w m) k) → Member k
    there k h some = elim (last_of k) [
      | first e ↦
          let alone = stored_alone k h (ap (inherited_at cmp w m) e) in
          (h, (tells_coverage o exact w m k h).1 (sym (ap is_some alone) ∙ some), λ p b f. absurd (no_push p b (sym e ∙ f)))
      | pushed p b e ↦
          let short : length p < w = let n = ap length e in let l = length-append p (b ∷ []) in omega (arith, n, l, h) in
          let handed : inherited_at cmp w m k ≡ answer (least_table cmp w m) p = ap (inherited_at cmp w m) e ∙ handed_parent p b short in
          elim (answer (least_table cmp w m) p) as (λ v. answer (least_table cmp w m) p ≡ v → Member k) [
            | Some x ↦ λ f.
                let gone = (at_key k h).stored_there ∙ ap (stored cmp (candidates_at cmp w m k)) (handed ∙ f) ∙ stored_under (candidates_at cmp w m k) x in
                absurd (true≢false (sym some ∙ ap is_some gone))
            | None ↦ λ f.
                let alone = stored_alone k h (handed ∙ f) in (
                  h,
                  (tells_coverage o exact w m k h).1 (sym (ap is_some alone) ∙ some),
                  λ q c g all. true≢false (sym ((tells_coverage o exact w m p (omega arith)).0 (subst (IsCovered w m) (same_front q p c b (sym g ∙ e)) all)) ∙ ap is_some f),
                )
          ] refl
    ]

    back : (k : KeyBits) → Member k → IsSome (map.get (least_table cmp w m) k)
    back k member =
        let h : length k ≤ w = member.0 in
        elim (last_of k) [
          | first e ↦ ap is_some (stored_alone k h (ap (inherited_at cmp w m) e)) ∙ (tells_coverage o exact w m k h).0 member.1
          | pushed p b e ↦
              let short : length p < w = let n = ap length e in let l = length-append p (b ∷ []) in omega (arith, n, l, h) in
              let handed : inherited_at cmp w m k ≡ answer (least_table cmp w m) p = ap (inherited_at cmp w m) e ∙ handed_parent p b short in
              elim (answer (least_table cmp w m) p) as (λ v. answer (least_table cmp w m) p ≡ v → IsSome (map.get (least_table cmp w m) k)) [
                | Some x ↦ λ f. absurd (member.2 p b e ((tells_coverage o exact w m p (omega arith)).1 (ap is_some f)))
                | None ↦ λ f. ap is_some (stored_alone k h (handed ∙ f)) ∙ (tells_coverage o exact w m k h).0 member.1
              ] refl
        ]

    pub least_is_set : IsSetAggregate w m (least_table cmp w m)
    least_is_set k = (λ some. there k (keeps_width o exact w m k some) some, back k)

  -- sets with the same members are one
  one_value : (x y : Option (Unit {0})) → (IsSome x → IsSome y) → (IsSome y → IsSome x) → x ≡ y
  one_value None None f g = refl
  one_value None (Some y) f g = absurd (true≢false (sym (g refl)))
  one_value (Some x) None f g = absurd (true≢false (sym (f refl)))
  one_value (Some x) (Some y) f g = refl

  only_least : (w : ℕ) (m n : KeyMap (Unit {0})) → IsSetAggregate w m n → n ≡ least_table cmp w m
  only_least w m n h = map.same_map key_total key_exact n (least_table cmp w m) (λ k. one_value _ _ (λ some. (least_is_set w m k).1 ((h k).0 some)) (λ some. (h k).1 ((least_is_set w m k).0 some)))

  pub least_is_set_aggregate : LeastIsSetAggregate cmp
  least_is_set_aggregate w m n = (only_least w m n, λ e. subst (IsSetAggregate w m) (sym e) (least_is_set w m))

  pub set_covers : SetAggregateCovers
  set_covers w m n h k l = keeps_answers o exact w m k l ∙ ap (λ t. answer t k) (sym (only_least w m n h))

  pub set_stable : SetAggregateIsStable
  set_stable w m n t h again = only_least w n t again ∙ ap (least_table cmp w) (only_least w m n h) ∙ is_stable o exact w m ∙ sym (only_least w m n h)

-- the order of the one value
pub unit_total : IsTotalOrder unit_cmp
unit_total = search rules

pub unit_exact : IsAntisymmetric unit_cmp
unit_exact x y e = refl
