-- The lines that are printed of two tables are built to their archive.
use Rattle.std.proofs.Common.{◌≡◌, ℕ, ◌+◌, ◌*◌, ◌/◌, ◌%◌, ◌-◌, ◌^◌, ◌<◌, ◌≤◌, false, List, [], ◌∷◌, ◌++◌, length, take, replicate, Option, None, refl, sym, ap, ◌∙◌, subst, arith, append-nil, length-append}
use Rattle.std.specs.Prelude.{IfSome, IsSome, is_some}
use Rattle.std.specs.List.{AllByRecursion}
use Rattle.std.specs.FinMap as fin
use Rattle.std.proofs.Math.Seq.{take-append_seam}
use Rattle.std.proofs.lemmas.List.{length-replicate}
use Rattle.std.proofs.lemmas.List.Elements.{filter_map-append}
use Rattle.prefix_model.specs.Keys.{KeyBits, low_bits, number, padded}
use Rattle.prefix_model.specs.Tables.{KeyMap, Values}
use Rattle.prefix_model.specs.Spelling.{HasSpelling, Spells, u32_codec}
use Rattle.prefix_model.proofs.Building.{AllHeld, insert_all-entries, sorted_held}
use Rattle.prefix_model.proofs.KeyPlaces.{low_bits-number, number-lt}
use Rattle.prefix_text.specs.Forms.{Entry}
use Rattle.prefix_text.specs.Printing.{DumpsAreRead, IsPrintable}
use Rattle.prefix_text.specs.declared.command.Command.TheVariants.{Dump}
use Rattle.prefix_app.specs.Dumps.{DumpsAreBuilt}
use Rattle.prefix_app.specs.Outcome.{archive, built, builds, first_entries, first_entry, first_lines, gives, key_in, over_tables, prefix_at, second_entries, second_entry, second_lines, writes}
use Rattle.prefix_app.proofs.OutcomeLaws.{small_written, tables_told}

-- ---- a key is what its prefix is read as

padded_length : (w : ℕ) (k : KeyBits) → length k ≤ w → length (padded w k) ≡ w
padded_length w k l = let a = length-append k (replicate (w - length k) false) in let b : length (replicate (w - length k) false) ≡ w - length k = length-replicate (w - length k) false in omega (arith, a, b, l)

key_again : (w : ℕ) (k : KeyBits) → length k ≤ w → key_in w (prefix_at w k) ≡ k
key_again w k l =
    ap (take (length k)) (ap (λ n. low_bits n (number (padded w k))) (sym (padded_length w k l)) ∙ low_bits-number (padded w k))
    ∙ take-append_seam k (replicate (w - length k) false)

number_small : (w : ℕ) (k : KeyBits) → length k ≤ w → number (padded w k) < 2 ^ w
number_small w k l = subst (λ n. number (padded w k) < 2 ^ n) (padded_length w k l) (number-lt (padded w k))

-- ---- values of 32 bits

below : (x : ℕ) → x % 256 < 256
below x = omega arith

-- four bytes make a number of 32 bits
small : (a b c d v : ℕ) → a < 256 → b < 256 → c < 256 → d < 256 → a + b * 256 ^ 1 + c * 256 ^ 2 + d * 256 ^ 3 ≡ v → v < 2 ^ 32
small a b c d v h i j k e = omega (arith, h, i, j, k, e)

value_small : (v : ℕ) → HasSpelling u32_codec v → v < 2 ^ 32
value_small v h = small (v % 256) (v / 256 ^ 1 % 256) (v / 256 ^ 2 % 256) (v / 256 ^ 3 % 256) v (below v) (below (v / 256 ^ 1)) (below (v / 256 ^ 2)) (below (v / 256 ^ 3)) h.again

-- ---- the entries of a table

-- a key and a value that a table of w bits may have
abbrev Fits : ℕ → KeyBits × ℕ → Type 0
Fits w e = (length e.0 ≤ w) × (e.1 < 2 ^ 32)

held : (m : KeyMap ℕ) → AllHeld (fin.get m) (fin.entries m)
held m = subst (λ (f : Values ℕ). AllHeld f (fin.entries m)) (λ i q. sym (fin.get-entries m q) i) (sorted_held (fin.entries m) (fin.entries_sorted m))

module _ (w : ℕ) (m : KeyMap ℕ) (width : (k : KeyBits) → IsSome (fin.get m k) → length k ≤ w) (values : (k : KeyBits) → IfSome (fin.get m k) (HasSpelling u32_codec)) where
  fits_by : (es : List (KeyBits × ℕ)) → AllHeld (fin.get m) es → AllByRecursion (Fits w) es
  fits_by [] h = tt
  fits_by ((k, v) ∷ es) (e, h) = ((width k (ap is_some e), value_small v (subst (λ o. IfSome o (HasSpelling u32_codec)) e (values k))), fits_by es h)

spelled_fits : (w : ℕ) (m : KeyMap ℕ) (bytes : List ℕ) → Spells u32_codec w bytes m → AllByRecursion (Fits w) (fin.entries m)
spelled_fits w m bytes s = fits_by w m s.width s.values (fin.entries m) (held m)

-- ---- lines of a family

first_printable : (es : List (KeyBits × ℕ)) (rest : List Entry) → AllByRecursion (Fits 32) es → AllByRecursion IsPrintable rest → AllByRecursion IsPrintable (first_lines es ++ rest)
first_printable [] rest h r = r
first_printable ((k, v) ∷ es) rest (e, h) r = ((number_small 32 k e.0, e.0, e.1), first_printable es rest h r)

second_printable : (es : List (KeyBits × ℕ)) → AllByRecursion (Fits 128) es → AllByRecursion IsPrintable (second_lines es)
second_printable [] h = tt
second_printable ((k, v) ∷ es) (e, h) = ((number_small 128 k e.0, e.0, e.1), second_printable es h)

first_again : (es : List (KeyBits × ℕ)) → AllByRecursion (Fits 32) es → first_entries (first_lines es) ≡ es
first_again [] h = refl
first_again ((k, v) ∷ es) (e, h) = λ i. (key_again 32 k e.0 i, v) ∷ first_again es h i

second_again : (es : List (KeyBits × ℕ)) → AllByRecursion (Fits 128) es → second_entries (second_lines es) ≡ es
second_again [] h = refl
second_again ((k, v) ∷ es) (e, h) = λ i. (key_again 128 k e.0 i, v) ∷ second_again es h i

no_second : (es : List (KeyBits × ℕ)) → second_entries (first_lines es) ≡ []
no_second [] = refl
no_second ((k, v) ∷ es) = no_second es

no_first : (es : List (KeyBits × ℕ)) → first_entries (second_lines es) ≡ []
no_first [] = refl
no_first ((k, v) ∷ es) = no_first es

-- ---- both families

module _ (m n : KeyMap ℕ) (f : AllByRecursion (Fits 32) (fin.entries m)) (g : AllByRecursion (Fits 128) (fin.entries n)) where
  abbrev printed : List Entry
  printed = first_lines (fin.entries m) ++ second_lines (fin.entries n)

  first_built : built (first_entries printed) ≡ m
  first_built =
      ap built (filter_map-append first_entry (first_lines (fin.entries m)) (second_lines (fin.entries n)) ∙ (λ i. first_again (fin.entries m) f i ++ no_first (fin.entries n) i) ∙ append-nil (fin.entries m))
      ∙ insert_all-entries m

  second_built : built (second_entries printed) ≡ n
  second_built =
      ap built (filter_map-append second_entry (first_lines (fin.entries m)) (second_lines (fin.entries n)) ∙ (λ i. no_second (fin.entries m) i ++ second_again (fin.entries n) g i))
      ∙ insert_all-entries n

  lines_built : (bad : Option ℕ) (es : List Entry) → bad ≡ None → es ≡ printed → builds bad es ≡ writes m n
  lines_built bad es e h =
      (λ i. builds (e i) (h i)) ∙ (λ i. writes (first_built i) (second_built i))

pub dumps_built : DumpsAreRead → DumpsAreBuilt
dumps_built read bytes m n s =
    let f = spelled_fits 32 m s.front s.first_spelled in
    let g = spelled_fits 128 n s.rest s.second_spelled in
    let told = read (printed m n f g) (first_printable (fin.entries m) (second_lines (fin.entries n)) f (second_printable (fin.entries n) g)) in
    let same : bytes ≡ archive m n = s.joined ∙ (λ i. s.first_spelled.same i ++ s.second_spelled.same i) in (
      ap (over_tables Dump) (tables_told bytes m n s),
      lines_built m n f g _ _ told.0 told.1 ∙ small_written m n s.first_spelled.positions_fit s.second_spelled.positions_fit s.first_spelled.entries_fit s.second_spelled.entries_fit ∙ ap gives (sym same),
    )
