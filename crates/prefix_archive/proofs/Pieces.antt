-- Values in bytes, by their numbers.
use Rattle.std.proofs.Common.{◌≡◌, ℕ, zero, suc, ◌+◌, ◌*◌, ◌<◌, ◌≤◌, List, [], ◌∷◌, ◌++◌, length, take, drop, refl, sym, ap, ◌∙◌, subst, arith, Some}
use Rattle.std.specs.Prelude.{slice_get}
use Rattle.std.specs.List.{flat_map, AllByRecursion}
use Rattle.std.specs.Coded.{Coded}
use Rattle.std.proofs.lemmas.List.{take_at, drop_at, drop-drop}
use Rattle.prefix_model.specs.Spelling.{Codec, HasSpelling}
use Rattle.prefix_model.specs.InPlace.{ValueIn, ValuesIn}
use Rattle.prefix_model.proofs.Archive.Bytes.{length-values}
use Rattle.prefix_model.proofs.Archive.Unique.{values_in_prop}
use native.Mathlib.Nat.{mul-le-mul_right}

module _ {V : Type 0} (codec : Codec V) where
  -- bytes tell what is read from them
  pub value_is : (bytes : List ℕ) (x : ValueIn codec bytes) → x.value ≡ codec.read bytes
  value_is bytes x = sym x.spelled.again ∙ ap codec.read (sym x.same)

  pub record PieceAt (items : List V) (bytes : List ℕ) (n : ℕ) : Type 0 where
    pub value : V
    pub here : slice_get items n ≡ Some value
    pub spelled : HasSpelling codec value
    pub same : take codec.size (drop (n * codec.size) bytes) ≡ codec.spell value

  piece_in : (items : List V) (n : ℕ) → AllByRecursion (HasSpelling codec) items → n < length items → PieceAt items (flat_map codec.spell items) n
  piece_in [] n h l = absurd (omega arith)
  piece_in (x ∷ xs) zero h l = record {
    value = x;
    here = refl;
    spelled = h.0;
    same = ap (λ k. take codec.size (drop k (codec.spell x ++ flat_map codec.spell xs))) (let e : 0 * codec.size ≡ 0 = omega arith in e) ∙ take_at (codec.spell x) (flat_map codec.spell xs) codec.size h.0.len;
  }
  piece_in (x ∷ xs) (suc n) h l =
      let r = piece_in xs n h.1 (omega arith) in
      let e : suc n * codec.size ≡ codec.size + n * codec.size = omega arith in
      record {
        value = r.value;
        here = r.here;
        spelled = r.spelled;
        same =
            ap (λ k. take codec.size (drop k (codec.spell x ++ flat_map codec.spell xs))) e
            ∙ ap (take codec.size) (sym (drop-drop (n * codec.size) codec.size (codec.spell x ++ flat_map codec.spell xs)) ∙ ap (drop (n * codec.size)) (drop_at (codec.spell x) (flat_map codec.spell xs) codec.size h.0.len))
            ∙ r.same;
      }

  -- the value of a number stands behind those before it
  pub piece_at : (count : ℕ) (bytes : List ℕ) (x : ValuesIn codec count bytes) (n : ℕ) → n < length x.items → PieceAt x.items bytes n
  piece_at count bytes x n l = subst (λ b. PieceAt x.items b n) (sym x.same) (piece_in x.items n x.spelled l)

  -- and within the bytes
  pub piece_within : (count : ℕ) (bytes : List ℕ) (x : ValuesIn codec count bytes) (n : ℕ) → n < length x.items → n * codec.size + codec.size ≤ length bytes
  piece_within count bytes x n l =
      let all : length bytes ≡ length x.items * codec.size = ap length x.same ∙ length-values codec x.items x.spelled in
      let less : (n + 1) * codec.size ≤ length x.items * codec.size = mul-le-mul_right {m = n + 1} {n = length x.items} codec.size (omega arith) in
      omega (arith, all, less)

  -- the values of equal bytes are equal
  pub same_items : Coded V → (n k : ℕ) (a b : List ℕ) → n ≡ k → a ≡ b → (x : ValuesIn codec n a) (y : ValuesIn codec k b) → x.items ≡ y.items
  same_items code n k a b e f =
      subst (λ j. (x : ValuesIn codec n a) (y : ValuesIn codec j b) → x.items ≡ y.items) e
      (subst (λ c. (x : ValuesIn codec n a) (y : ValuesIn codec n c) → x.items ≡ y.items) f (λ x y i. (values_in_prop code codec n a x y i).items))
