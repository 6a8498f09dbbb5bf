-- An archive that is opened: its records and its values.
use Rattle.std.proofs.Common.{◌≡◌, ℕ, ◌*◌, ◌/◌, ◌%◌, ◌^◌, ◌<◌, ◌≤◌, List, [], ◌++◌, length, take, drop, refl, sym, ap, ◌∙◌, subst, arith, append-nil, length-drop, length-take}
use Rattle.std.specs.List.{flat_map}
use Rattle.std.specs.FinMap as finite
use Rattle.std.proofs.lemmas.Option.{slice_get_within}
use Rattle.prefix_model.specs.Tables.{KeyMap}
use Rattle.prefix_model.specs.Positions.{NodeRecord, positions_in}
use Rattle.prefix_model.specs.Spelling.{Codec, IsBytes, Spells, spelling, record_bytes}
use Rattle.prefix_model.specs.FirstCause.{read_records}
use Rattle.prefix_model.specs.InPlace.{ValuesIn, TableIn, records_in, table_records, table_values}
use Rattle.std.proofs.lemmas.List.{nil_from_length}
use Rattle.prefix_model.proofs.Archive.Bytes.{length-read_records, records_taken}
use Rattle.prefix_model.proofs.Archive.Descent.{root_first}
use Rattle.prefix_model.proofs.Archive.Parts.{length-table_records, length-table_values, values_spelled, has_records, records_stand, values_stand, one_table}
use Rattle.prefix_layout.specs.Spans.{BeginsWithFamily}

pub length-records_in : (bytes : List ℕ) → length (records_in bytes) ≡ length bytes / 16
unfolding records_in
length-records_in bytes = length-read_records (length bytes / 16) bytes

-- bytes that are records spell them
pub bytes_of_records : (bytes : List ℕ) → IsBytes bytes → length bytes % 16 ≡ 0 → bytes ≡ flat_map record_bytes (records_in bytes)
unfolding records_in
bytes_of_records bytes fits whole =
    let n : ℕ = length bytes / 16 in
    let none : drop (16 * n) bytes ≡ [] = nil_from_length (drop (16 * n) bytes) (let a = length-drop (16 * n) bytes in omega (arith, a)) in
    records_taken n bytes fits (omega arith) ∙ ap (λ r. flat_map record_bytes (read_records n bytes) ++ r) none ∙ append-nil (flat_map record_bytes (read_records n bytes))

module _ {V : Type 0} (codec : Codec V) (w : ℕ) where
  -- what the records and the values of a table count
  pub nodes_counted : (bytes : List ℕ) (vs : List V) (t : TableIn codec w (records_in bytes) vs) → length bytes / 16 ≡ length (positions_in t.entries)
  nodes_counted bytes vs t = sym (length-records_in bytes) ∙ ap length t.records_are ∙ length-table_records t.entries

  pub entries_counted : (rs : List NodeRecord) (vs : List V) (t : TableIn codec w rs vs) → length vs ≡ finite.len t.entries
  entries_counted rs vs t = ap length t.values_are ∙ length-table_values t.entries w t.spelled.width ∙ sym (finite.len-entries t.entries)

  pub few_entries : (rs : List NodeRecord) (vs : List V) (t : TableIn codec w rs vs) → length vs < 2 ^ 32
  few_entries rs vs t = let a = entries_counted rs vs t in let b = finite.len-entries t.entries in let c = t.spelled.entries_fit in omega arith

  pub begins : (bytes : List ℕ) (m : KeyMap V) → w ≤ 128 → Spells codec w bytes m → BeginsWithFamily codec bytes
  begins bytes m l s = record { width = w; within = l; front = bytes; rest = []; table = m; spelled = s; joined = sym (append-nil bytes) }

  -- bytes that spell a table, in their parts
  pub record Opening (bytes : List ℕ) (m : KeyMap V) (n e : ℕ) : Type 0 where
    pub head : 8 ≤ length bytes
    pub room : 16 * n ≤ length (drop 8 bytes)
    pub records : records_in (take (16 * n) (drop 8 bytes)) ≡ table_records m
    pub values : ValuesIn codec e (drop (16 * n) (drop 8 bytes))
    pub items_are : values.items ≡ table_values m

  pub opening : (bytes : List ℕ) (m : KeyMap V) (n e : ℕ) → Spells codec w bytes m → n ≡ length (positions_in m) → e ≡ length (finite.entries m) → Opening bytes m n e
  unfolding records_in
  opening bytes m n e s n_is e_is =
      let room : 16 * n ≤ length (drop 8 bytes) = let a = has_records codec w bytes m s in omega (arith, n_is, a) in
      let len : length (take (16 * n) (drop 8 bytes)) / 16 ≡ n = let a = length-take (16 * n) (drop 8 bytes) in omega (arith, a, room) in
      let some : 0 < n = let a = slice_get_within (positions_in m) 0 [] (root_first m) in omega (arith, n_is, a) in
      record {
        head = let a = length-drop 8 bytes in omega (arith, a, room, some);
        room = room;
        records = (λ i. read_records ((len ∙ n_is) i) (take (16 * n_is i) (drop 8 bytes))) ∙ records_stand codec w bytes m s;
        values = record {
          items = table_values m;
          count_is = length-table_values m w s.width ∙ sym e_is;
          spelled = values_spelled codec w bytes m s;
          same = ap (λ k. drop (16 * k) (drop 8 bytes)) n_is ∙ values_stand codec w bytes m s;
        };
        items_are = refl;
      }

  -- a table that is spelled has a spelling of its own
  spelled_as : (bytes : List ℕ) (m : KeyMap V) → Spells codec w bytes m → Spells codec w (spelling codec m) m
  spelled_as bytes m s = record { width = s.width; positions_fit = s.positions_fit; entries_fit = s.entries_fit; values = s.values; same = refl }

  -- the table of the records and values of another is that one
  pub table_from : (bytes : List ℕ) (m : KeyMap V) → Spells codec w bytes m → (rs : List NodeRecord) (vs : List V) → rs ≡ table_records m → vs ≡ table_values m → TableIn codec w rs vs
  table_from bytes m s rs vs r v = record { entries = m; spelled = spelled_as bytes m s; records_are = r; values_are = v }

  pub spelled_again : (bytes : List ℕ) (m : KeyMap V) → Spells codec w bytes m → (rs : List NodeRecord) (vs : List V) → rs ≡ table_records m → vs ≡ table_values m → (x : TableIn codec w rs vs) → Spells codec w bytes x.entries
  spelled_again bytes m s rs vs r v x =
      subst (Spells codec w bytes) (one_table codec w m x.entries (spelled_as bytes m s) x.spelled (sym r ∙ x.records_are) (sym v ∙ x.values_are)) s
