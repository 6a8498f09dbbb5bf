-- A fill answers everywhere, with the fewest keys.
use Rattle.std.proofs.Common.{◌≡◌, ℕ, ◌+◌, ◌-◌, ◌≤◌, Bool, true, false, cond, List, [], ◌∷◌, refl, sym, ap, ◌∙◌, arith, Option, Some, None}
use Rattle.std.specs.Prelude.{is_some}
use Rattle.std.specs.Option.{option_or}
use Rattle.std.specs.declared.cmp.Ordering.{Ordering}
use Rattle.std.specs.Cmp.{IsTotalOrder}
use Rattle.std.specs.FinMap as map
use Rattle.std.specs.FinMap.{IsAntisymmetric}
use Rattle.prefix_model.specs.Keys.{KeyBits}
use Rattle.prefix_model.specs.Tables.{KeyMap, Values, after, answer, answer_under}
use Rattle.prefix_model.specs.Candidates.{Candidates, least, offers}
use Rattle.prefix_model.specs.LeastTable.{stored, candidates_at, least_table}
use Rattle.prefix_model.specs.Aggregates.{filled, fill_table}
use Rattle.prefix_model.specs.AggregateLaws.{Fills, FillsEach}
use Rattle.prefix_model.proofs.Order.{key_total}
use Rattle.prefix_model.proofs.Fewest.Serving.{same_values, candidates_good}
use Rattle.prefix_model.proofs.Fewest.Keys.{covered, good_least, least_stores}
use Rattle.prefix_model.proofs.Fewest.Tables.{keeps_answers, has_fewest, is_no_larger, is_stable}

module _ {V : Type 0} where
  or_assoc : (x y z : Option V) → option_or x (option_or y z) ≡ option_or (option_or x y) z
  or_assoc None y z = refl
  or_assoc (Some x) y z = refl

  or_none : (x : Option V) → option_or x None ≡ x
  or_none None = refl
  or_none (Some x) = refl

  or_Some : (x : Option V) (d : V) → is_some (option_or x (Some d)) ≡ true
  or_Some None d = refl
  or_Some (Some x) d = refl

  -- what is inherited answers where nothing else does
  answer_default : (k : KeyBits) (x v : Option V) (f : Values V) → answer_under (option_or x v) f k ≡ option_or (answer_under x f k) v
  answer_default [] x v f = or_assoc (f []) x v
  answer_default (b ∷ k) x v f = ap (λ y. answer_under y (after b f) k) (or_assoc (f []) x v) ∙ answer_default k (option_or (f []) x) v (after b f)

  module _ (m : KeyMap V) (d : V) where
    filled_root : map.get (filled m d) [] ≡ option_or (map.get m []) (Some d)
    filled_root =
        elim (map.get m []) as (λ x. map.get m [] ≡ x → map.get (cond (is_some x) m (map.insert m [] d)) [] ≡ option_or x (Some d)) [
          | None ↦ λ e. map.get-insert key_total m [] d []
          | Some x ↦ λ e. e
        ] refl

    filled_below : (b : Bool) (q : KeyBits) → map.get (filled m d) (b ∷ q) ≡ map.get m (b ∷ q)
    filled_below b q = elim (is_some (map.get m [])) as (λ t. map.get (cond t m (map.insert m [] d)) (b ∷ q) ≡ map.get m (b ∷ q)) [ true ↦ refl | false ↦ map.get-insert key_total m [] d (b ∷ q) ]

    pub answer-filled : (k : KeyBits) → answer (filled m d) k ≡ option_or (answer m k) (Some d)
    answer-filled [] = or_none _ ∙ filled_root ∙ ap (λ x. option_or x (Some d)) (sym (or_none _))
    answer-filled (b ∷ k) =
        ap (λ x. answer_under x (after b (map.get (filled m d))) k) (or_none _ ∙ filled_root)
        ∙ same_values (after b (map.get (filled m d))) (after b (map.get m)) (filled_below b) (option_or (map.get m []) (Some d)) k
        ∙ answer_default k (map.get m []) (Some d) (after b (map.get m))
        ∙ ap (λ x. option_or (answer_under x (after b (map.get m)) k) (Some d)) (sym (or_none _))

    len-filled : map.len (filled m d) ≤ map.len m + 1
    len-filled =
        elim (is_some (map.get m [])) as (λ t. map.contains_key m [] ≡ t → map.len (cond t m (map.insert m [] d)) ≤ map.len m + 1) [
          | true ↦ λ e. omega arith
          | false ↦ λ e. let l = map.len-insert key_total m [] d ∙ ap (λ t. cond t (map.len m) (map.len m + 1)) e in omega arith
        ] refl

module _ {V : Type 0} {cmp : V → V → Ordering} (o : IsTotalOrder cmp) (exact : IsAntisymmetric cmp) where
  is_some-stored : (c : Candidates V) → ((l : List V) → c ≡ Some l → is_some (least l) ≡ true) → is_some c ≡ true → is_some (stored cmp c None) ≡ true
  unfolding offers
  is_some-stored None h e = e
  is_some-stored (Some l) h e = h l refl

  filled_again : (n : KeyMap V) (d : V) → is_some (map.get n []) ≡ true → filled n d ≡ n
  filled_again n d e = ap (λ t. cond t n (map.insert n [] d)) e

  root_stored : (w : ℕ) (m : KeyMap V) (d : V) → is_some (map.get (fill_table cmp w m d) []) ≡ true
  root_stored w m d =
      ap is_some (least_stores o exact w (filled m d) [] (omega arith))
      ∙ is_some-stored (candidates_at cmp w (filled m d) []) (good_least o exact (candidates_at cmp w (filled m d) []) (candidates_good o exact (w - 0) (answer (filled m d))))
      (covered cmp (w - 0) (answer (filled m d)) (λ k e. ap is_some (answer-filled m d k) ∙ or_Some (answer m k) d))

  stable_fill : (w : ℕ) (m : KeyMap V) (d : V) → fill_table cmp w (fill_table cmp w m d) d ≡ fill_table cmp w m d
  stable_fill w m d = ap (least_table cmp w) (filled_again (fill_table cmp w m d) d (root_stored w m d)) ∙ is_stable o exact w (filled m d)

  fills : (w : ℕ) (m : KeyMap V) (d : V) → Fills cmp w m d
  fills w m d = record {
    stable = stable_fill w m d;
    answers = λ k e. sym (keeps_answers o exact w (filled m d) k e) ∙ answer-filled m d k;
    fewest = λ n width same. has_fewest o exact w (filled m d) n width (λ k e. sym (keeps_answers o exact w (filled m d) k e) ∙ answer-filled m d k ∙ sym (same k e));
    one_more = let a = is_no_larger o exact w (filled m d) in let b = len-filled m d in omega arith;
    at_root = root_stored w m d;
  }

  pub fills_each : FillsEach cmp
  fills_each = fills

-- a default that stands above a table answers as in the filled table
pub answers_of_filled : {V : Type 0} (m : KeyMap V) (d : V) (k : KeyBits) → answer (filled m d) k ≡ answer_under (Some d) (map.get m) k
answers_of_filled m d k = answer-filled m d k ∙ sym (answer_default k None (Some d) (map.get m))
