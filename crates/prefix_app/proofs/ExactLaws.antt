-- Where bytes are refused, and where a table has no room.
use Rattle.std.proofs.Common.{◌≡◌, ◌↔◌, ◌⊎◌, inl, inr, ℕ, Bool, true, false, ◌||◌, List, Result, Ok, Err, refl, sym, ap, ◌∙◌, arith, if◌then◌else◌}
use Rattle.std.specs.Int.{w32}
use Rattle.std.proofs.lemmas.Bool.Decides.{nat_tests}
use Rattle.prefix_model.specs.declared.Cause.{Cause}
use Rattle.prefix_model.specs.FirstCause.{check_pair}
use Rattle.prefix_model.specs.Tables.{KeyMap}
use Rattle.prefix_model.specs.Spelling.{IsBytes, u32_codec}
use Rattle.prefix_model.proofs.Archive.Codecs.{numbers_lawful}
use Rattle.prefix_model.proofs.Archive.Spelled.{is_exact, spelled_pair}
use Rattle.prefix_layout.specs.declared.error.ArchiveError.TheVariants.{NodeIndexOverflow, DataIndexOverflow}
use Rattle.prefix_joint_archive.specs.Compacting.{IsFull}
use Rattle.prefix_text.specs.declared.command.Command.{Command}
use Rattle.prefix_text.specs.declared.command.Command.TheVariants.{Compact, Fill, Consistent, Check, Dump, Lookup, Cover, Build, Generate}
use Rattle.prefix_app.specs.Compacted.{LacksRoom, SpellsNone, SpellsTables, least}
use Rattle.prefix_app.specs.Exact.{OverflowsExactly, RefusesExactly}
use Rattle.prefix_app.specs.Outcome.{answers, archive, ends, gives, has_many_entries, has_many_positions, over_bytes, over_tables, reads_archive, tables_of, writes}
use Rattle.prefix_app.specs.Questions.{consistent_of, fill_of}
use Rattle.prefix_app.specs.Statuses.{refusal}
use Rattle.prefix_app.specs.declared.status.Status.TheVariants as status
use Rattle.prefix_app.proofs.OutcomeLaws.{cause_told, compact_overflows, few_least, tables_told, written}

no_archive : {A : Type 0} → false ≡ true → A
no_archive h = cc

not_refused : {A : Type 0} → status.Done ≡ status.Refused → A
not_refused h = cc

not_full : {A : Type 0} → status.Overflow ≡ status.Refused → A
not_full h = cc

-- ---- what is spelled is not refused

writes_serve : {A : Type 0} (m n : KeyMap ℕ) → (writes m n).status ≡ status.Refused → A
writes_serve {A} m n h = by (has_many_positions m || has_many_positions n) (has_many_entries m || has_many_entries n) h
  where
    by : (p q : Bool) → (if p then ends status.Overflow (refusal NodeIndexOverflow) else (if q then ends status.Overflow (refusal DataIndexOverflow) else gives (archive m n))).status ≡ status.Refused → A
    by true q h = not_full h
    by false true h = not_full h
    by false false h = not_refused h

answers_serve : {A : Type 0} (c : Command) → reads_archive c ≡ true → (m n : KeyMap ℕ) → (answers c m n).status ≡ status.Refused → A
answers_serve Compact r m n h = writes_serve (least 32 m) (least 128 n) h
answers_serve (Fill v) r m n h = writes_serve (fill_of 32 m v) (fill_of 128 n v) h
answers_serve Consistent r m n h = writes_serve (consistent_of m) (consistent_of n) h
answers_serve Check r m n h = not_refused h
answers_serve Dump r m n h = not_refused h
answers_serve (Lookup p) r m n h = not_refused h
answers_serve (Cover p) r m n h = not_refused h
answers_serve Build r m n h = no_archive r
answers_serve (Generate seed count) r m n h = no_archive r

over_is : (c : Command) → reads_archive c ≡ true → (bytes : List ℕ) → over_bytes c bytes ≡ over_tables c (tables_of bytes)
over_is Compact r bytes = refl
over_is (Fill v) r bytes = refl
over_is Consistent r bytes = refl
over_is Check r bytes = refl
over_is Dump r bytes = refl
over_is (Lookup p) r bytes = refl
over_is (Cover p) r bytes = refl
over_is Build r bytes = no_archive r
over_is (Generate seed count) r bytes = no_archive r

spelled_by : (bytes : List ℕ) → IsBytes bytes → check_pair u32_codec 32 128 bytes ≡ Ok tt → (m : KeyMap ℕ) × (n : KeyMap ℕ) × SpellsTables bytes m n
spelled_by bytes b e = (is_exact u32_codec (numbers_lawful w32).lawful 32 128 bytes b).0 e

pub refuses_exactly : RefusesExactly
refuses_exactly c r bytes b = by (check_pair u32_codec 32 128 bytes) refl
  where
    by : (x : Result (Unit {0}) Cause) → check_pair u32_codec 32 128 bytes ≡ x → ((over_bytes c bytes).status ≡ status.Refused) ↔ SpellsNone bytes
    by (Err a) e = (
      (λ h m n s. let k = sym (spelled_pair u32_codec 32 128 bytes m n s) ∙ e in cc),
      (λ none. ap (λ o. o.status) (over_is c r bytes ∙ ap (over_tables c) (cause_told bytes a e))),
    )
    by (Ok u) e =
        let p = spelled_by bytes b e in (
          (λ h. answers_serve c r p.0 p.1 (sym (ap (λ o. o.status) (over_is c r bytes ∙ ap (over_tables c) (tables_told bytes p.0 p.1 p.2))) ∙ h)),
          (λ none. absurd (none p.0 p.1 p.2)),
        )

-- ---- a least table without room

many : (m : KeyMap ℕ) → has_many_positions m ≡ true → IsFull m
many m e = grind (arith, nat_tests, e)

full_of : (m n : KeyMap ℕ) → has_many_entries m ≡ false → has_many_entries n ≡ false → (writes m n).status ≡ status.Overflow → IsFull m ⊎ IsFull n
full_of m n e f h = by (has_many_positions m) (has_many_positions n) refl refl
  where
    by : (p q : Bool) → has_many_positions m ≡ p → has_many_positions n ≡ q → IsFull m ⊎ IsFull n
    by true q a b = inl (many m a)
    by false true a b = inr (many n b)
    by false false a b = let k = sym (ap (λ o. o.status) (written m n a b e f)) ∙ h in cc

lacks : (bytes : List ℕ) (m n : KeyMap ℕ) (s : SpellsTables bytes m n) → (over_bytes Compact bytes).status ≡ status.Overflow → LacksRoom bytes
lacks bytes m n s h =
    let told = ap (over_tables Compact) (tables_told bytes m n s) in record {
      first = m;
      second = n;
      input_spelled = s;
      full = full_of (least 32 m) (least 128 n) (few_least 32 m s.first_spelled.entries_fit) (few_least 128 n s.second_spelled.entries_fit) (sym (ap (λ o. o.status) told) ∙ h);
    }

pub overflows_exactly : OverflowsExactly
overflows_exactly bytes b = ((λ h. by (check_pair u32_codec 32 128 bytes) refl h), (λ l. ap (λ o. o.status) (compact_overflows bytes l)))
  where
    by : (x : Result (Unit {0}) Cause) → check_pair u32_codec 32 128 bytes ≡ x → (over_bytes Compact bytes).status ≡ status.Overflow → LacksRoom bytes
    by (Err a) e h = let k = sym (ap (λ o. o.status) (ap (over_tables Compact) (cause_told bytes a e))) ∙ h in cc
    by (Ok u) e h = let p = spelled_by bytes b e in lacks bytes p.0 p.1 p.2 h
