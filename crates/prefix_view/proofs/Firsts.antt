-- The first entry of a walk.
use Rattle.std.specs.Prelude.{◌≡◌, ◌&&◌, Bool, true, false, ◌∷◌, Some}
use Rattle.std.specs.FinMap.{get, entries, get-entries}
use Rattle.std.proofs.Common.{sym, ap, ◌∙◌}
use Rattle.prefix_model.specs.Keys.{KeyBits}
use Rattle.prefix_model.specs.Walks.{begins_with, walk_from, stands_from}
use Rattle.prefix_model.specs.Views.{Seen}
use Rattle.prefix_model.proofs.KeyLemmas.{both_true}
use Rattle.prefix_model.proofs.Walking.WalkRest.{rest_after, first_value}
use Rattle.prefix_model.proofs.WalkSplits.{those_both}
use Rattle.prefix_view.specs.Iteration.{IsFirstAt, IsAdvanceTo}

module _ {V : Type 0} where
  module _ (v u : Seen V) (q : KeyBits) (i : Bool) (h : IsFirstAt v (walk_from v.entries v.place q i) u) where
    value_of_first : (begins_with v.place u.place ≡ true) × (get v.entries u.place ≡ Some h.value)
    value_of_first =
        let r = first_value (λ k. begins_with v.place k && stands_from i q k) (entries v.entries) (u.place, h.value) h.others (sym (those_both (begins_with v.place) (stands_from i q) (entries v.entries)) ∙ h.first) in
        ((both_true _ _ r.0).0, get-entries v.entries u.place ∙ r.1)

    pub first_extends : begins_with v.place u.place ≡ true
    first_extends = value_of_first.0

    -- the walk goes on behind the first
    pub advances : (p : KeyBits) → p ≡ u.place → IsAdvanceTo v (walk_from v.entries v.place q i) (walk_from v.entries v.place p false) u
    advances p e = record {
      value = h.value;
      first = h.first ∙ ap (λ xs. (u.place, h.value) ∷ xs) (sym (ap (λ x. walk_from v.entries v.place x false) e ∙ rest_after v.entries v.place q i (u.place, h.value) h.others h.first));
      stored = value_of_first.1;
      same = h.same;
    }
