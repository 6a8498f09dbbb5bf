-- Archives are equal where their tables are.
use Rattle.std.proofs.Common.{◌≡◌, ℕ, true, eqb, List, [], ◌∷◌, length, refl, sym, ap, ◌∙◌}
use Rattle.std.specs.Prelude.{◌&&◌}
use Rattle.std.specs.List.{flat_map}
use Rattle.std.specs.Cmp.Lexicographic.{pointwise}
use Rattle.std.specs.Coded.{Coded}
use Rattle.std.proofs.lemmas.Bool.{eqb-true, eq-eqb}
use Rattle.prefix_model.specs.Positions.{NodeRecord}
use Rattle.prefix_model.specs.Spelling.{Codec, record_bytes}
use Rattle.prefix_model.specs.InPlace.{ValuesIn, TableIn, records_in, table_records, table_values}
use Rattle.prefix_model.proofs.KeyLemmas.{both_true}
use Rattle.prefix_model.proofs.Archive.Parts.{one_table}

-- numbers that test as equal one by one
pub same_numbers : (xs ys : List ℕ) → pointwise eqb xs ys ≡ true → xs ≡ ys
same_numbers [] [] e = refl
same_numbers [] (y ∷ ys) e = cc
same_numbers (x ∷ xs) [] e = cc
same_numbers (x ∷ xs) (y ∷ ys) e = let p = both_true (eqb x y) (pointwise eqb xs ys) e in λ i. eqb-true x y p.0 i ∷ same_numbers xs ys p.1 i

pub numbers_itself : (xs : List ℕ) → pointwise eqb xs xs ≡ true
numbers_itself [] = refl
numbers_itself (x ∷ xs) = λ i. eq-eqb x x refl i && numbers_itself xs i

module _ {V : Type 0} (code : Coded V) (codec : Codec V) (w : ℕ) where
  -- records and values that are equal have one table
  pub same_table : (rs qs : List NodeRecord) (vs us : List V) (x : TableIn codec w rs vs) (y : TableIn codec w qs us) → rs ≡ qs → vs ≡ us → x.entries ≡ y.entries
  same_table rs qs vs us x y r v = one_table codec w x.entries y.entries x.spelled y.spelled (sym x.records_are ∙ r ∙ y.records_are) (sym x.values_are ∙ v ∙ y.values_are)

  -- and equal tables have equal bytes
  pub same_nodes : (a b : List ℕ) (vs us : List V) (x : TableIn codec w (records_in a) vs) (y : TableIn codec w (records_in b) us) → a ≡ flat_map record_bytes (records_in a) → b ≡ flat_map record_bytes (records_in b) → x.entries ≡ y.entries → a ≡ b
  same_nodes a b vs us x y p q e = p ∙ ap (flat_map record_bytes) (x.records_are ∙ ap table_records e ∙ sym y.records_are) ∙ sym q

  pub same_values : (rs qs : List NodeRecord) (n k : ℕ) (a b : List ℕ) (s : ValuesIn codec n a) (t : ValuesIn codec k b) (x : TableIn codec w rs s.items) (y : TableIn codec w qs t.items) → x.entries ≡ y.entries → (a ≡ b) × (n ≡ k)
  same_values rs qs n k a b s t x y e =
      let items : s.items ≡ t.items = x.values_are ∙ ap table_values e ∙ sym y.values_are in
      (s.same ∙ ap (flat_map codec.spell) items ∙ sym t.same, sym s.count_is ∙ ap length items ∙ t.count_is)
