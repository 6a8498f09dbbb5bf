-- What an iterator over a view gives.
--     IsFirst v es r      r is v at the first of these entries, and none where there is none
--     IsFirstSeen v C r      r is v at the first of its entries of whose key C holds, and none where C holds of none
--     IsAdvance v es fs r      r is v at the first of es, and fs are the others;  r is none where es is empty, and then fs is empty
--     left_from v q i done      what is left of a walk from q on
use Rattle.std.specs.Prelude.{◌≡◌, Bool, cond, List, [], ◌∷◌, Option, Some, None}
use Rattle.std.specs.Option.{option_map}
use Rattle.std.specs.FinMap.{get}
use Rattle.prefix_model.specs.Keys.{KeyBits}
use Rattle.prefix_model.specs.Walks.{walk_from}
use Rattle.prefix_model.specs.NodeSearches.{IsFirstOf}
use Rattle.prefix_model.specs.Views.{Seen, moved, held}

module _ {V : Type 0} where
  pub record IsFirstAt (v : Seen V) (es : List (KeyBits × V)) (u : Seen V) : Type 0 where
    pub value : V
    pub others : List (KeyBits × V)
    pub first : es ≡ (u.place, value) ∷ others
    pub same : u ≡ moved v u.place

  abbrev pub IsFirst : Seen V → List (KeyBits × V) → Option (Seen V) → Type 0
  IsFirst v es None = es ≡ []
  IsFirst v es (Some u) = IsFirstAt v es u

  pub record IsFirstSeen (v : Seen V) (C : KeyBits → Type 0) (r : Option (Seen V)) : Type 0 where
    pub entry : Option (KeyBits × V)
    pub first : IsFirstOf (held v) C entry
    pub same : r ≡ option_map (λ e. moved v e.0) entry

  -- what is left of the walk of a view from q on
  abbrev pub left_from : Seen V → KeyBits → Bool → Bool → List (KeyBits × V)
  left_from v q i done = cond done [] (walk_from v.entries v.place q i)

  pub record IsAdvanceTo (v : Seen V) (es fs : List (KeyBits × V)) (u : Seen V) : Type 0 where
    pub value : V
    pub first : es ≡ (u.place, value) ∷ fs
    pub stored : get v.entries u.place ≡ Some value
    pub same : u ≡ moved v u.place

  abbrev pub IsAdvance : Seen V → List (KeyBits × V) → List (KeyBits × V) → Option (Seen V) → Type 0
  IsAdvance v es fs None = (es ≡ []) × (fs ≡ [])
  IsAdvance v es fs (Some u) = IsAdvanceTo v es fs u
