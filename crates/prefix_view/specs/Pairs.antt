-- A closure that is asked at each pair of two lists of entries.
--     AsksPairs step value other f es fs answer      the calls that began with f, and the answer of them all
use Rattle.std.specs.Prelude.{◌≡◌, ◌⊎◌, Bool, true, false, List, [], ◌∷◌}
use Rattle.prefix_model.specs.Keys.{KeyBits, same_key}

module _ {F X Y A B : Type 0} (step : F → X → Y → Bool → F → Type 0) (value : X → A) (other : Y → B) where
  -- one call at two values
  pub record Asks (f : F) (a : A) (b : B) (answer : Bool) (g : F) : Type 0 where
    pub left : X
    pub right : Y
    pub is_left : value left ≡ a
    pub is_right : other right ≡ b
    pub asked : step f left right answer g

  -- The closure is asked once for each pair, until the keys differ, one list ends or an answer is false.
  -- The answer is true where both lists end together and each answer was true.
  abbrev pub AsksPairs : F → List (KeyBits × A) → List (KeyBits × B) → Bool → Type 0
  AsksPairs f [] [] r = r ≡ true
  AsksPairs f [] (e ∷ fs) r = r ≡ false
  AsksPairs f (d ∷ es) [] r = r ≡ false
  AsksPairs f (d ∷ es) (e ∷ fs) r =
      ((same_key d.0 e.0 ≡ false) × (r ≡ false))
      ⊎ ((same_key d.0 e.0 ≡ true) × ((g : F) × (answer : Bool) × Asks f d.1 e.1 answer g × (((answer ≡ false) × (r ≡ false)) ⊎ ((answer ≡ true) × AsksPairs g es fs r))))
