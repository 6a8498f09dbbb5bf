-- What the record of a node leads to: its values, and the records of its children.
use Rattle.std.proofs.Common.{◌≡◌, ℕ, zero, suc, ◌+◌, ◌*◌, ◌/◌, ◌<◌, true, false, eqb, List, [], ◌∷◌, ◌++◌, length, drop, refl, sym, ap, ◌∙◌, subst, arith, Option, Some, None}
use Rattle.std.specs.Prelude.{is_some, slice_get}
use Rattle.std.specs.Int.{bit_at}
use Rattle.std.specs.FinMap as finite
use Rattle.std.proofs.lemmas.List.{drop-drop}
use Rattle.std.proofs.lemmas.Option.{slice_get_within, same_Some}
use Rattle.prefix_model.specs.Keys.{KeyBits}
use Rattle.prefix_model.specs.Tables.{KeyMap}
use Rattle.prefix_model.specs.Positions.{NodeRecord, positions_in, data_places, child_places}
use Rattle.prefix_model.specs.Spelling.{Codec}
use Rattle.prefix_model.specs.FirstCause.{read_record, read_records}
use Rattle.prefix_model.specs.InPlace.{IsRecordOf, TableIn, is_position, bits_below, records_in}
use Rattle.prefix_model.proofs.Archive.Descent.{leads_down, root_first, data_bit_tells, child_bit_tells}
use Rattle.prefix_archive.proofs.Opening.{length-records_in}

-- a record that is read, by its number
get_read : (n i : ℕ) (bytes : List ℕ) → i < n → slice_get (read_records n bytes) i ≡ Some (read_record (drop (16 * i) bytes))
get_read zero i bytes l = absurd (omega arith)
get_read (suc n) zero bytes l = ap (λ k. Some (read_record (drop k bytes))) (let e : 0 ≡ 16 * 0 = omega arith in e)
get_read (suc n) (suc i) bytes l =
    let e : 16 + 16 * i ≡ 16 * suc i = omega arith in
    get_read n i (drop 16 bytes) (omega arith) ∙ ap (λ b. Some (read_record b)) (drop-drop (16 * i) 16 bytes ∙ ap (λ k. drop k bytes) e)

-- the record of the node at p stands at number n
pub record RecordAt {V : Type 0} (m : KeyMap V) (p : KeyBits) (bytes : List ℕ) (n : ℕ) : Type 0 where
  pub within : n < length bytes / 16
  pub is_of : (r : NodeRecord) → r ≡ read_record (drop (16 * n) bytes) → IsRecordOf m p r

module _ {V : Type 0} (codec : Codec V) (w : ℕ) (bytes : List ℕ) (vs : List V) (t : TableIn codec w (records_in bytes) vs) where
  record_at : (n : ℕ) (p : KeyBits) → slice_get (positions_in t.entries) n ≡ Some p → RecordAt t.entries p bytes n
  unfolding records_in
  record_at n p at =
      let down = leads_down V t.entries n p at in
      let here : slice_get (read_records (length bytes / 16) bytes) n ≡ Some down.0 = ap (λ rs. slice_get rs n) t.records_are ∙ down.1 in
      let within : n < length bytes / 16 = let a = slice_get_within (read_records (length bytes / 16) bytes) n down.0 here in let b = length-records_in bytes in omega (arith, a, b) in
      record {
        within = within;
        is_of = λ r e. subst (IsRecordOf t.entries p) (same_Some down.0 r (sym here ∙ get_read (length bytes / 16) n bytes within ∙ ap Some (sym e))) down.2;
      }

  pub root_at : RecordAt t.entries [] bytes 0
  root_at = record_at 0 [] (root_first t.entries)

  pub record Stored (k : KeyBits) (n : ℕ) : Type 0 where
    pub value : V
    pub stored : finite.get t.entries k ≡ Some value
    pub here : slice_get vs n ≡ Some value

  module _ (p : KeyBits) (r : NodeRecord) (h : IsRecordOf t.entries p r) where
    -- the value at a data bit that is set
    pub value_behind : (b : ℕ) (s : KeyBits) → slice_get data_places b ≡ Some s → eqb (bit_at r.data_bits b) 1 ≡ true → Stored (p ++ s) (r.data_index + bits_below b r.data_bits)
    value_behind b s e set = go (finite.get t.entries (p ++ s)) refl
      where
        go : (o : Option V) → finite.get t.entries (p ++ s) ≡ o → Stored (p ++ s) (r.data_index + bits_below b r.data_bits)
        go (Some v) is = record { value = v; stored = is; here = ap (λ l. slice_get l (r.data_index + bits_below b r.data_bits)) t.values_are ∙ h.value b s v e is }
        go None is = absurd (let some = sym set ∙ data_bit_tells t.entries p r h b s e ∙ ap is_some is in cc)

    pub none_behind : (b : ℕ) (s : KeyBits) → slice_get data_places b ≡ Some s → eqb (bit_at r.data_bits b) 1 ≡ false → finite.get t.entries (p ++ s) ≡ None
    none_behind b s e clear = go (finite.get t.entries (p ++ s)) refl
      where
        go : (o : Option V) → finite.get t.entries (p ++ s) ≡ o → finite.get t.entries (p ++ s) ≡ None
        go (Some v) is = absurd (let some = sym clear ∙ data_bit_tells t.entries p r h b s e ∙ ap is_some is in cc)
        go None is = is

    -- and the record of the child at a child bit that is set
    pub child_behind : (c : ℕ) (s : KeyBits) → slice_get child_places c ≡ Some s → eqb (bit_at r.child_bits c) 1 ≡ true → RecordAt t.entries (p ++ s) bytes (r.child_index + bits_below c r.child_bits)
    child_behind c s e set = record_at (r.child_index + bits_below c r.child_bits) (p ++ s) (h.child c s e (sym (child_bit_tells t.entries p r h c s e) ∙ set))

    pub no_child_behind : (c : ℕ) (s : KeyBits) → slice_get child_places c ≡ Some s → eqb (bit_at r.child_bits c) 1 ≡ false → is_position t.entries (p ++ s) ≡ false
    no_child_behind c s e clear = sym (child_bit_tells t.entries p r h c s e) ∙ clear

-- each child bit has a place
pub child_place : (c : ℕ) → c < 32 → (s : KeyBits) × (slice_get child_places c ≡ Some s)
unfolding child_places
child_place c l = some_at child_places c l
  where
    some_at : (ks : List KeyBits) (i : ℕ) → i < length ks → (s : KeyBits) × (slice_get ks i ≡ Some s)
    some_at [] i l = absurd (omega arith)
    some_at (k ∷ ks) zero l = (k, refl)
    some_at (k ∷ ks) (suc i) l = some_at ks i (omega arith)
