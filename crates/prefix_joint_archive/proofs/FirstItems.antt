-- What is given first of the entries that cover a prefix.
use Rattle.std.proofs.Common.{◌≡◌, List, [], ◌∷◌, map, Option, Some, None, refl, sym, ap, ◌∙◌}
use Rattle.std.specs.Prelude.{MatchOption, is_some, slice_get}
use Rattle.std.specs.Option.{option_map}
use Rattle.either.specs.declared.Either.TheVariants.{Left, Right}
use Rattle.prefix_model.specs.Tables.{KeyMap}
use Rattle.prefix_model.specs.Walks.{covers}
use Rattle.prefix_joint_walks.specs.Joint.{JointKey, joint_covers, shortest_at}
use Rattle.prefix_joint_archive.specs.Families.{pair_of}

-- the first of what an iterator has left was given
pub first_of : {A B : Type 0} (view : A → B) {left all : List B} (rest : List B) (r : Option A) → MatchOption r ((left ≡ []) × (rest ≡ [])) (λ x. left ≡ view x ∷ rest) → left ≡ all → option_map view r ≡ slice_get all 0
first_of view rest None h e = sym (ap (λ xs. slice_get xs 0) (sym e ∙ h.0))
first_of view rest (Some x) h e = sym (ap (λ xs. slice_get xs 0) (sym e ∙ h))

-- one was given just where there was one
pub some_of : {A K V : Type 0} (view : A → V) {left all : List (K × V)} (rest : List V) (r : Option A) → MatchOption r ((map (λ e. e.1) left ≡ []) × (rest ≡ [])) (λ x. map (λ e. e.1) left ≡ view x ∷ rest) → left ≡ all → is_some r ≡ is_some (slice_get all 0)
some_of {A = A} {K = K} {V = V} view {left = left} rest r h e = go left r h ∙ ap (λ xs. is_some (slice_get xs 0)) e
  where
    go : (xs : List (K × V)) (r : Option A) → MatchOption r ((map (λ e. e.1) xs ≡ []) × (rest ≡ [])) (λ x. map (λ e. e.1) xs ≡ view x ∷ rest) → is_some r ≡ is_some (slice_get xs 0)
    go [] None h = refl
    go [] (Some x) h = cc
    go (y ∷ ys) None h = let k = h.0 in cc
    go (y ∷ ys) (Some x) h = refl

-- the first of what a function gives is what it gives of the first
pub first_mapped : {A B : Type 0} (f : A → B) (xs : List A) → slice_get (map f xs) 0 ≡ option_map f (slice_get xs 0)
first_mapped f [] = refl
first_mapped f (x ∷ xs) = refl

module _ {V : Type 0} (m n : KeyMap V) where
  -- the first of the covers is the shortest
  pub first_is_shortest : (k : JointKey) → slice_get (joint_covers m n k) 0 ≡ shortest_at (pair_of m n) k
  first_is_shortest (Left k) = first_mapped _ (covers m k)
  first_is_shortest (Right k) = first_mapped _ (covers n k)
