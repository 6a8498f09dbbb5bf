-- What bytes tell they tell in one way: facts on spellings have at most one proof.
use Rattle.std.proofs.Common.{◌≡◌, ℕ, List, [], ◌∷◌, length, map, refl, sym, ap, ◌∙◌, subst, Option, Some, None, append-nil}
use Rattle.std.specs.Prelude.{IfSome}
use Rattle.std.specs.List.{flat_map, AllByRecursion}
use Rattle.std.specs.Coded.{Coded, Coded-set, coded_list, coded_ℕ, coded_bool, coded×, code_by, le_prop, Unit-prop, ×_prop}
use Rattle.std.specs.FinMap as finite
use Rattle.prefix_model.specs.Tables.{KeyMap}
use Rattle.prefix_model.specs.Positions.{NodeRecord}
use Rattle.prefix_model.specs.Spelling.{Codec, HasSpelling, Spells, spelling}
use Rattle.prefix_model.specs.FirstCause.{pieces}
use Rattle.prefix_model.specs.InPlace.{ValueIn, ValuesIn, TableIn, table_records, table_values}
use Rattle.prefix_model.proofs.Archive.Bytes.{pieces_again, values_again}
use Rattle.prefix_model.proofs.Archive.Parts.{one_table}

pub if_some_prop : {A : Type 0} (P : A → Type 0) → ((x : A) → IsProp (P x)) → (o : Option A) → IsProp (IfSome o P)
if_some_prop P h None = Unit-prop
if_some_prop P h (Some x) = h x

pub all_prop : {A : Type 0} (P : A → Type 0) → ((x : A) → IsProp (P x)) → (xs : List A) → IsProp (AllByRecursion P xs)
all_prop P h [] = Unit-prop
all_prop P h (x ∷ xs) = ×_prop (h x) (all_prop P h xs)

abbrev pub coded_record : Coded NodeRecord
coded_record =
    code_by (ℕ × (ℕ × (ℕ × ℕ))) (coded× coded_ℕ (coded× coded_ℕ (coded× coded_ℕ coded_ℕ)))
    (λ r. (r.data_bits, (r.child_bits, (r.data_index, r.child_index)))) (λ p. record { data_bits = p.0; child_bits = p.1.0; data_index = p.1.1.0; child_index = p.1.1.1 }) (λ _. refl)

module _ {V : Type 0} (code : Coded V) (codec : Codec V) where
  pub has_spelling_prop : (v : V) → IsProp (HasSpelling codec v)
  has_spelling_prop v = hlevel (le_prop, Coded-set coded_ℕ, Coded-set coded_bool, Coded-set code)

  -- bytes spell one value
  pub value_in_prop : (bytes : List ℕ) → IsProp (ValueIn codec bytes)
  value_in_prop bytes x y =
      subst (λ v. (s : HasSpelling codec v) (e : bytes ≡ codec.spell v) → x ≡ record { value = v; spelled = s; same = e })
      (sym x.spelled.again ∙ ap codec.read (sym x.same ∙ y.same) ∙ y.spelled.again)
      (λ s e i. record { value = x.value; spelled = has_spelling_prop x.value x.spelled s i; same = Coded-set (coded_list coded_ℕ) _ _ x.same e i }) y.spelled y.same

  read_from : (count : ℕ) (bytes : List ℕ) (x : ValuesIn codec count bytes) → map codec.read (pieces codec.size count bytes) ≡ x.items
  read_from count bytes x =
      (λ i. map codec.read (pieces codec.size (sym x.count_is i) ((x.same ∙ sym (append-nil (flat_map codec.spell x.items))) i)))
      ∙ ap (map codec.read) (pieces_again codec x.items [] x.spelled) ∙ values_again codec x.items x.spelled

  -- and so many values
  pub values_in_prop : (count : ℕ) (bytes : List ℕ) → IsProp (ValuesIn codec count bytes)
  values_in_prop count bytes x y =
      subst (λ vs. (n : length vs ≡ count) (s : AllByRecursion (HasSpelling codec) vs) (e : bytes ≡ flat_map codec.spell vs) → x ≡ record { items = vs; count_is = n; spelled = s; same = e })
      (sym (read_from count bytes x) ∙ read_from count bytes y)
      (λ n s e i. record {
        items = x.items;
        count_is = Coded-set coded_ℕ _ _ x.count_is n i;
        spelled = all_prop (HasSpelling codec) has_spelling_prop x.items x.spelled s i;
        same = Coded-set (coded_list coded_ℕ) _ _ x.same e i;
      }) y.count_is y.spelled y.same

  pub spells_prop : (w : ℕ) (bytes : List ℕ) (m : KeyMap V) → IsProp (Spells codec w bytes m)
  spells_prop w bytes m = hlevel (le_prop, Coded-set (coded_list coded_ℕ), if_some_prop (HasSpelling codec) has_spelling_prop)

  -- records and values are those of one table
  pub table_in_prop : (w : ℕ) (rs : List NodeRecord) (vs : List V) → IsProp (TableIn codec w rs vs)
  table_in_prop w rs vs x y =
      subst (λ m. (s : Spells codec w (spelling codec m) m) (r : rs ≡ table_records m) (v : vs ≡ table_values m) → x ≡ record { entries = m; spelled = s; records_are = r; values_are = v })
      (one_table codec w x.entries y.entries x.spelled y.spelled (sym x.records_are ∙ y.records_are) (sym x.values_are ∙ y.values_are))
      (λ s r v i. record {
        entries = x.entries;
        spelled = spells_prop w (spelling codec x.entries) x.entries x.spelled s i;
        records_are = Coded-set (coded_list coded_record) _ _ x.records_are r i;
        values_are = Coded-set (coded_list code) _ _ x.values_are v i;
      }) y.spelled y.records_are y.values_are
