-- What bytes tell of an outcome, and which archives are written.
use Rattle.std.proofs.Common.{◌≡◌, ◌↔◌, ◌⊎◌, inl, inr, ℕ, ◌^◌, ◌<◌, ◌≤◌, Bool, true, false, List, [], ◌++◌, length, Result, Ok, Err, Vec, Global, refl, sym, ap, ◌∙◌, subst, arith, append-nil, nat_le}
use Rattle.std.specs.Prelude.{nat_eq, IfOk, IsErrAnd, OnErr, MatchResult}
use Rattle.std.specs.Ordering.{nat_cmp}
use Rattle.prefix_model.specs.Aggregates.{consistent_table, fill_table}
use Rattle.prefix_app.specs.Questions.{consistent_of, fill_of}
use Rattle.std.specs.FinMap.{entries, len, len-entries}
use Rattle.std.specs.Result.{result_unwrap_or}
use Rattle.std.proofs.lemmas.Bool.Decides.{nat_tests}
use Rattle.std.proofs.lemmas.Cmp.{nat_cmp_total}
use Rattle.std.proofs.lemmas.Map.Lookups.{exact_unsigned}
use Rattle.prefix_model.specs.declared.Cause.{Cause}
use Rattle.prefix_model.specs.declared.Cause.TheVariants as cause
use Rattle.prefix_model.specs.Tables.{KeyMap}
use Rattle.prefix_model.specs.Positions.{positions_in}
use Rattle.prefix_model.specs.Spelling.{spelling, u32_codec}
use Rattle.prefix_model.specs.FirstCause.{check, check_pair, ◌>>=◌}
use Rattle.prefix_model.proofs.Archive.Spelled.{accepts_spelled, reads_table, spelled_pair}
use Rattle.prefix_model.proofs.Fewest.Tables.{is_no_larger}
use Rattle.prefix_layout.specs.Errors.{error_of, IsWriteError}
use Rattle.prefix_layout.specs.declared.error.ArchiveError.{ArchiveError}
use Rattle.prefix_layout.specs.declared.error.ArchiveError.TheVariants.{Truncated, TrailingBytes, InvalidValue, MissingRootNode, NodeListTooLong, NodeListTooShort, NodeListInconsistent, DataListInconsistent, DataListTooShort, DataListTooLong, ContainsEmptyNode, DepthExceedsPrefixRepr, NodeIndexOverflow, DataIndexOverflow, OutOfMemory}
use Rattle.prefix_joint_archive.specs.Compacting.{IsFull}
use Rattle.prefix_text.specs.declared.command.Command.{Command}
use Rattle.prefix_text.specs.declared.command.Command.TheVariants.{Compact}
use Rattle.prefix_app.specs.Compacted.{IsCause, IsCompacted, LacksRoom, SpellsLeast, SpellsTables, least}
use Rattle.prefix_app.specs.Endings.{EndsIn, Makes, ending_line, ending_status}
use Rattle.prefix_app.specs.Outcome.{Outcome, ends, gives, tables_of, table_at_front, behind_first, archive, writes, has_many_positions, has_many_entries, over_tables, over_bytes}
use Rattle.prefix_app.specs.Statuses.{status_of, line_of_error, refusal}
use Rattle.prefix_app.specs.Steps.{Gives, IsGiven, IsOpened, IsRefused, TellsTables}
use Rattle.prefix_app.specs.declared.ending.Ending.{Ending}
use Rattle.prefix_app.specs.declared.ending.Ending.TheVariants as ending
use Rattle.prefix_app.specs.declared.status.Status.TheVariants as status

-- ---- the tables that bytes spell

pub cause_told : (bytes : List ℕ) (a : Cause) → IsCause bytes a → tables_of bytes ≡ Err a
cause_told bytes a h = ap (λ c. c >>= λ _. Ok (table_at_front bytes, table_at_front (behind_first bytes))) h

pub tables_told : (bytes : List ℕ) (m n : KeyMap ℕ) → SpellsTables bytes m n → tables_of bytes ≡ Ok (m, n)
tables_told bytes m n s =
    let front : check u32_codec 32 bytes ≡ Ok s.rest = ap (check u32_codec 32) s.joined ∙ accepts_spelled u32_codec 32 s.front s.rest m s.first_spelled in
    let behind : behind_first bytes ≡ s.rest = ap (λ r. result_unwrap_or r []) front in
    let one : table_at_front bytes ≡ m = ap table_at_front s.joined ∙ reads_table u32_codec 32 s.front s.rest m s.first_spelled in
    let two : table_at_front (behind_first bytes) ≡ n = ap table_at_front (behind ∙ sym (append-nil s.rest)) ∙ reads_table u32_codec 128 s.rest [] n s.second_spelled in
    ap (λ c. c >>= λ _. Ok (table_at_front bytes, table_at_front (behind_first bytes))) (spelled_pair u32_codec 32 128 bytes m n s)
    ∙ (ap (λ x. Ok (x, table_at_front (behind_first bytes))) one ∙ ap (λ x. Ok (m, x)) two)

pub tells_tables : TellsTables
tells_tables = record { tables = tables_told; cause = cause_told }

-- ---- bytes that are refused, and bytes that are not

ends_refused : (a : Cause) → ends status.Refused (refusal (error_of a)) ≡ ends (status_of (error_of a)) (line_of_error (error_of a))
unfolding status_of line_of_error
ends_refused cause.Truncated = refl
ends_refused cause.TrailingBytes = refl
ends_refused cause.InvalidValue = refl
ends_refused cause.MissingRootNode = refl
ends_refused cause.NodeListTooLong = refl
ends_refused cause.NodeListTooShort = refl
ends_refused cause.NodeListInconsistent = refl
ends_refused cause.DataListInconsistent = refl
ends_refused cause.DataListTooShort = refl
ends_refused cause.DataListTooLong = refl
ends_refused cause.ContainsEmptyNode = refl
ends_refused cause.DepthExceedsPrefixRepr = refl

pub refused_ends : (c : Command) (bytes : List ℕ) (error : ArchiveError) (e : Ending) → IsRefused bytes error → e ≡ ending.Archive error → EndsIn (over_tables c (tables_of bytes)) e
refused_ends c bytes error e r f =
    let same : over_tables c (tables_of bytes) ≡ ends (status_of error) (line_of_error error) =
    ap (over_tables c) r.told ∙ (ends_refused r.cause ∙ ap (λ x. ends (status_of x) (line_of_error x)) (sym r.named)) in
    subst (EndsIn (over_tables c (tables_of bytes))) (sym f) (inl same)

pub refused_makes : (c : Command) (bytes : List ℕ) (error : ArchiveError) (r : Result (Vec ℕ Global) Ending) → IsRefused bytes error → IsErrAnd r (λ e. e ≡ ending.Archive error) → Makes (over_tables c (tables_of bytes)) r
refused_makes c bytes error (Ok x) refused h = absurd h
refused_makes c bytes error (Err x) refused h = refused_ends c bytes error x refused h

pub opened_makes : (c : Command) (bytes : List ℕ) (m n : KeyMap ℕ) (r : Result (Vec ℕ Global) Ending) → IsOpened bytes m n → Makes (over_tables c (Ok (m, n))) r → Makes (over_tables c (tables_of bytes)) r
opened_makes c bytes m n r o h = subst (λ t. Makes (over_tables c t) r) (sym o.told) h

-- what a test of the bytes answers
pub opened_by : (bytes : List ℕ) (m n : KeyMap ℕ) → SpellsTables bytes m n → IsOpened bytes m n
opened_by bytes m n s = record { told = tables_told bytes m n s }

pub refused_by : (bytes : List ℕ) (error : ArchiveError) (a : Cause) → error ≡ error_of a → check_pair u32_codec 32 128 bytes ≡ Err a → IsRefused bytes error
refused_by bytes error a e h = record { cause = a; named = e; told = cause_told bytes a h }

pub open_told : {A : Type 0} (bytes : List ℕ) (r : Result A ArchiveError) (first second : A → KeyMap ℕ) → MatchResult r (λ _. check_pair u32_codec 32 128 bytes ≡ Ok tt) (λ e. (a : Cause) × (e ≡ error_of a) × (check_pair u32_codec 32 128 bytes ≡ Err a))
    → IfOk r (λ x. SpellsTables bytes (first x) (second x)) → MatchResult r (λ x. IsOpened bytes (first x) (second x)) (IsRefused bytes)
open_told bytes (Ok x) first second told spelled = opened_by bytes (first x) (second x) spelled
open_told bytes (Err e) first second (a, named, found) spelled = refused_by bytes e a named found

-- a table of an archive has few entries
pub has_room : (m n : KeyMap ℕ) → m ≡ n → length (entries n) < 2 ^ 32 → len m < 2 ^ 62
has_room m n e l = let k : len m ≡ length (entries n) = ap len e ∙ len-entries n in omega arith

-- the least table of one that was filled
pub fill_told : (w : ℕ) (m old new : KeyMap ℕ) (d v : ℕ) → old ≡ m → v ≡ d → new ≡ fill_table nat_cmp w old v → new ≡ fill_of w m d
unfolding fill_of
fill_told w m old new d v e f g = g ∙ (ap (λ x. fill_table nat_cmp w x v) e ∙ ap (fill_table nat_cmp w m) f)

-- the table without what the next entry above says
pub consistent_told : (m old new : KeyMap ℕ) → old ≡ m → new ≡ consistent_table nat_eq old → new ≡ consistent_of m
unfolding consistent_of
consistent_told m old new e g = g ∙ ap (consistent_table nat_eq) e

-- memory may be wanting in any command
pub no_memory_makes : (o : Outcome) (r : Result (Vec ℕ Global) Ending) → IsErrAnd r (λ e. e ≡ ending.NoMemory) → Makes o r
no_memory_makes o (Ok x) h = absurd h
no_memory_makes o (Err x) h = inr ((ap ending_status h), (ap ending_line h))

-- the tables that are written are those that were made
pub writes_same : {m n k l : KeyMap ℕ} (r : Result (Vec ℕ Global) Ending) → m ≡ k → n ≡ l → Makes (writes m n) r → Makes (writes k l) r
writes_same {m} {n} {k} {l} r e f h = subst (λ x. Makes (writes k x) r) f (subst (λ x. Makes (writes x n) r) e h)

-- ---- archives that are written

pub written : (m n : KeyMap ℕ) → has_many_positions m ≡ false → has_many_positions n ≡ false → has_many_entries m ≡ false → has_many_entries n ≡ false → writes m n ≡ gives (archive m n)
written m n e f g h = rw (e, f, g, h) refl

first_full : (m n : KeyMap ℕ) → has_many_positions m ≡ true → writes m n ≡ ends status.Overflow (refusal NodeIndexOverflow)
first_full m n e = rw e refl

second_full : (m n : KeyMap ℕ) → has_many_positions n ≡ true → writes m n ≡ ends status.Overflow (refusal NodeIndexOverflow)
second_full m n e = by (has_many_positions m) refl
  where
    by : (b : Bool) → has_many_positions m ≡ b → writes m n ≡ ends status.Overflow (refusal NodeIndexOverflow)
    by true f = first_full m n f
    by false f = rw (f, e) refl

first_long : (m n : KeyMap ℕ) → has_many_positions m ≡ false → has_many_positions n ≡ false → has_many_entries m ≡ true → writes m n ≡ ends status.Overflow (refusal DataIndexOverflow)
first_long m n e f g = rw (e, f, g) refl

second_long : (m n : KeyMap ℕ) → has_many_positions m ≡ false → has_many_positions n ≡ false → has_many_entries n ≡ true → writes m n ≡ ends status.Overflow (refusal DataIndexOverflow)
second_long m n e f g = by (has_many_entries m) refl
  where
    by : (b : Bool) → has_many_entries m ≡ b → writes m n ≡ ends status.Overflow (refusal DataIndexOverflow)
    by true h = first_long m n e f h
    by false h = rw (e, f, h, g) refl

-- what the archive of one table tells of it
pub data Tells (m : KeyMap ℕ) : Result (Vec ℕ Global) ArchiveError → Type 0 where
  whole : (bytes : Vec ℕ Global) → has_many_positions m ≡ false → has_many_entries m ≡ false → bytes.items ≡ spelling u32_codec m → Tells m (Ok bytes)
  full : has_many_positions m ≡ true → Tells m (Err NodeIndexOverflow)
  long : has_many_positions m ≡ false → has_many_entries m ≡ true → Tells m (Err DataIndexOverflow)
  memory : Tells m (Err OutOfMemory)

ends_full : (o : Outcome) → o ≡ ends status.Overflow (refusal NodeIndexOverflow) → EndsIn o (ending.Archive NodeIndexOverflow)
unfolding status_of line_of_error
ends_full o e = inl e

ends_long : (o : Outcome) → o ≡ ends status.Overflow (refusal DataIndexOverflow) → EndsIn o (ending.Archive DataIndexOverflow)
unfolding status_of line_of_error
ends_long o e = inl e

ends_memory : (o : Outcome) → EndsIn o (ending.Archive OutOfMemory)
unfolding status_of line_of_error
ends_memory o = inr (refl, refl)

pub no_memory : (o : Outcome) (e : Ending) → e ≡ ending.NoMemory → EndsIn o e
no_memory o e f = subst (EndsIn o) (sym f) (inr (refl, refl))

-- want of memory, by a question mark
pub memory_makes : (o : Outcome) (r : Result (Vec ℕ Global) Ending) → IsErrAnd r (λ e. e ≡ ending.NoMemory) → Makes o r
memory_makes o (Ok x) h = absurd h
memory_makes o (Err x) h = no_memory o x h

module _ (m n : KeyMap ℕ) where
  pub both_whole : {a b : Vec ℕ Global} (out : Vec ℕ Global) → Tells m (Ok a) → Tells n (Ok b) → out.items ≡ a.items ++ b.items → Makes (writes m n) (Ok out)
  both_whole out (whole a e f s) (whole b g h t) same = written m n e g f h ∙ ap gives (sym (same ∙ (ap (λ x. x ++ b.items) s ∙ ap (λ x. spelling u32_codec m ++ x) t)))

  pub second_fails : {a : Vec ℕ Global} {error : ArchiveError} → Tells m (Ok a) → Tells n (Err error) → EndsIn (writes m n) (ending.Archive error)
  second_fails (whole a e f s) (full g) = ends_full (writes m n) (second_full m n g)
  second_fails (whole a e f s) (long g h) = ends_long (writes m n) (second_long m n e g h)
  second_fails (whole a e f s) memory = ends_memory (writes m n)

  pub first_fails : {error : ArchiveError} → Tells m (Err error) → (error ≡ DataIndexOverflow → ⊥) → EndsIn (writes m n) (ending.Archive error)
  first_fails (full e) other = ends_full (writes m n) (first_full m n e)
  first_fails (long e f) other = absurd (other refl)
  first_fails memory other = ends_memory (writes m n)

  pub first_long_second_whole : {b : Vec ℕ Global} → Tells m (Err DataIndexOverflow) → Tells n (Ok b) → EndsIn (writes m n) (ending.Archive DataIndexOverflow)
  first_long_second_whole (long e f) (whole b g h t) = ends_long (writes m n) (first_long m n e g f)

  pub first_long_second_fails : {error : ArchiveError} → Tells m (Err DataIndexOverflow) → Tells n (Err error) → EndsIn (writes m n) (ending.Archive error)
  first_long_second_fails (long e f) (full g) = ends_full (writes m n) (second_full m n g)
  first_long_second_fails (long e f) (long g h) = ends_long (writes m n) (first_long m n e g f)
  first_long_second_fails (long e f) memory = ends_memory (writes m n)

is_small : (n : ℕ) → n < 2 ^ 32 → nat_le (2 ^ 32) n ≡ false
is_small n l = grind (arith, nat_tests)

is_large : (n : ℕ) → 2 ^ 32 ≤ n → nat_le (2 ^ 32) n ≡ true
is_large n l = grind (arith, nat_tests)

-- from the clauses of `to_bytes`
module _ (m : KeyMap ℕ) where
  few : (A : Type 0) (n : ℕ) → (2 ^ 32 ≤ n → A) → (A → ⊥) → nat_le (2 ^ 32) n ≡ false
  few A n f g = by (nat_le (2 ^ 32) n) refl
    where
      by : (b : Bool) → nat_le (2 ^ 32) n ≡ b → b ≡ false
      by false e = refl
      by true e = absurd (g (f (grind (arith, nat_tests))))

  pub tells : (r : Result (Vec ℕ Global) ArchiveError)
      → IfOk r (λ bytes. bytes.items ≡ spelling u32_codec m)
      → (r ≡ Err NodeIndexOverflow) ↔ (2 ^ 32 ≤ length (positions_in m))
      → (r ≡ Err DataIndexOverflow) ↔ ((length (positions_in m) < 2 ^ 32) × (2 ^ 32 ≤ len m))
      → OnErr r (IsWriteError r) → Tells m r
  tells (Ok bytes) s p v w =
      let e : has_many_positions m ≡ false = few (◌≡◌ {A = Result (Vec ℕ Global) ArchiveError} (Ok bytes) (Err NodeIndexOverflow)) (length (positions_in m)) p.1 (λ h. cc) in
      let l : length (positions_in m) < 2 ^ 32 = grind (arith, nat_tests, e) in
      whole bytes e (few (◌≡◌ {A = Result (Vec ℕ Global) ArchiveError} (Ok bytes) (Err DataIndexOverflow)) (len m) (λ h. v.1 (l, h)) (λ h. cc)) s
  tells (Err NodeIndexOverflow) s p v w = full (is_large (length (positions_in m)) (p.0 refl))
  tells (Err DataIndexOverflow) s p v w = long (is_small (length (positions_in m)) (v.0 refl).0) (is_large (len m) (v.0 refl).1)
  tells (Err OutOfMemory) s p v w = memory
  tells (Err Truncated) s p v w = absurd w
  tells (Err TrailingBytes) s p v w = absurd w
  tells (Err InvalidValue) s p v w = absurd w
  tells (Err MissingRootNode) s p v w = absurd w
  tells (Err NodeListTooLong) s p v w = absurd w
  tells (Err NodeListTooShort) s p v w = absurd w
  tells (Err NodeListInconsistent) s p v w = absurd w
  tells (Err DataListInconsistent) s p v w = absurd w
  tells (Err DataListTooShort) s p v w = absurd w
  tells (Err DataListTooLong) s p v w = absurd w
  tells (Err ContainsEmptyNode) s p v w = absurd w
  tells (Err DepthExceedsPrefixRepr) s p v w = absurd w

-- two tables of few positions and entries are written
pub small_written : (m n : KeyMap ℕ) → length (positions_in m) < 2 ^ 32 → length (positions_in n) < 2 ^ 32 → length (entries m) < 2 ^ 32 → length (entries n) < 2 ^ 32 → writes m n ≡ gives (archive m n)
small_written m n p q e f = written m n (is_small _ p) (is_small _ q) (is_small _ (subst (λ x. x < 2 ^ 32) (sym (len-entries m)) e)) (is_small _ (subst (λ x. x < 2 ^ 32) (sym (len-entries n)) f))

-- ---- compacting

pub few_least : (w : ℕ) (m : KeyMap ℕ) → length (entries m) < 2 ^ 32 → has_many_entries (least w m) ≡ false
few_least w m l = is_small (len (least w m)) (let h : len (least w m) ≤ len m = is_no_larger nat_cmp_total exact_unsigned w m in let k : len m ≡ length (entries m) = len-entries m in omega arith)

compact_made : (bytes output : List ℕ) → SpellsLeast bytes output → over_bytes Compact bytes ≡ gives output
compact_made bytes output s =
    ap (over_tables Compact) (tables_told bytes s.first s.second s.input_spelled)
    ∙ (written (least 32 s.first) (least 128 s.second) (is_small _ s.first_room) (is_small _ s.second_room) (few_least 32 s.first s.input_spelled.first_spelled.entries_fit) (few_least 128 s.second s.input_spelled.second_spelled.entries_fit)
    ∙ ap gives (sym s.output_is))

pub compact_overflows : (bytes : List ℕ) → LacksRoom bytes → over_bytes Compact bytes ≡ ends status.Overflow (refusal NodeIndexOverflow)
compact_overflows bytes l = ap (over_tables Compact) (tables_told bytes l.first l.second l.input_spelled) ∙ full_either l.full
  where
    full_either : IsFull (least 32 l.first) ⊎ IsFull (least 128 l.second) → writes (least 32 l.first) (least 128 l.second) ≡ ends status.Overflow (refusal NodeIndexOverflow)
    full_either (inl h) = first_full (least 32 l.first) (least 128 l.second) (is_large _ h)
    full_either (inr h) = second_full (least 32 l.first) (least 128 l.second) (is_large _ h)

compact_full : (bytes : List ℕ) → LacksRoom bytes → EndsIn (over_bytes Compact bytes) (ending.Archive NodeIndexOverflow)
compact_full bytes l = ends_full (over_bytes Compact bytes) (compact_overflows bytes l)

-- a clause of the call: an error names a cause just where it is the first
abbrev pub TellsCauses : Type 0 → List ℕ → ArchiveError → Type 0
TellsCauses A bytes error = (a : Cause) → (◌≡◌ {A = Result A ArchiveError} (Err error) (Err (error_of a))) ↔ IsCause bytes a

by_cause : {A : Type 0} (bytes : List ℕ) (error : ArchiveError) (a : Cause) → error ≡ error_of a → TellsCauses A bytes error → EndsIn (over_bytes Compact bytes) (ending.Archive error)
by_cause bytes error a e told = refused_ends Compact bytes error (ending.Archive error) (refused_by bytes error a e ((told a).0 (ap Err e))) refl

pub compact_ends : {A : Type 0} (bytes : List ℕ) (error : ArchiveError) → TellsCauses A bytes error → (◌≡◌ {A = Result A ArchiveError} (Err error) (Err NodeIndexOverflow) → LacksRoom bytes) → (◌≡◌ {A = Result A ArchiveError} (Err error) (Err DataIndexOverflow) → ⊥)
    → EndsIn (over_bytes Compact bytes) (ending.Archive error)
compact_ends bytes Truncated told lacks never = by_cause bytes Truncated cause.Truncated refl told
compact_ends bytes TrailingBytes told lacks never = by_cause bytes TrailingBytes cause.TrailingBytes refl told
compact_ends bytes InvalidValue told lacks never = by_cause bytes InvalidValue cause.InvalidValue refl told
compact_ends bytes MissingRootNode told lacks never = by_cause bytes MissingRootNode cause.MissingRootNode refl told
compact_ends bytes NodeListTooLong told lacks never = by_cause bytes NodeListTooLong cause.NodeListTooLong refl told
compact_ends bytes NodeListTooShort told lacks never = by_cause bytes NodeListTooShort cause.NodeListTooShort refl told
compact_ends bytes NodeListInconsistent told lacks never = by_cause bytes NodeListInconsistent cause.NodeListInconsistent refl told
compact_ends bytes DataListInconsistent told lacks never = by_cause bytes DataListInconsistent cause.DataListInconsistent refl told
compact_ends bytes DataListTooShort told lacks never = by_cause bytes DataListTooShort cause.DataListTooShort refl told
compact_ends bytes DataListTooLong told lacks never = by_cause bytes DataListTooLong cause.DataListTooLong refl told
compact_ends bytes ContainsEmptyNode told lacks never = by_cause bytes ContainsEmptyNode cause.ContainsEmptyNode refl told
compact_ends bytes DepthExceedsPrefixRepr told lacks never = by_cause bytes DepthExceedsPrefixRepr cause.DepthExceedsPrefixRepr refl told
compact_ends bytes NodeIndexOverflow told lacks never = compact_full bytes (lacks refl)
compact_ends bytes DataIndexOverflow told lacks never = absurd (never refl)
compact_ends bytes OutOfMemory told lacks never = ends_memory (over_bytes Compact bytes)

pub compact_gives : (bytes output : List ℕ) → SpellsLeast bytes output → IsCompacted bytes output → (over_bytes Compact bytes ≡ gives output) × Gives bytes output
unfolding Gives
compact_gives bytes output s f = (compact_made bytes output s, record { least = s; fewest = f })

pub given_of : {bytes output : List ℕ} → Gives bytes output → IsGiven bytes output
unfolding Gives
given_of d = d
