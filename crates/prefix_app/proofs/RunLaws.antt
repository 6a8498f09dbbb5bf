-- What a run ends with, from what its steps ended with.
use Rattle.std.proofs.Common.{◌≡◌, ◌⊎◌, inl, inr, ℕ, Bool, true, false, ◌&&◌, List, [], ◌∷◌, ◌++◌, length, Option, None, Some, refl, sym, ap, ◌∙◌, subst, append-nil, length-append, ◌+◌, ◌<◌, ◌≤◌, ◌↔◌, arith, nat_lt, codes, if◌then◌else◌}
use Rattle.std.specs.declared.string.String.{String}
use Rattle.std.specs.declared.alloc.Global.{Global}
use Rattle.std.specs.Io.KnownBytes.{Appends, Keeps}
use Rattle.std.proofs.Math.Seq.{take-length}
use Rattle.std.proofs.lemmas.Bool.Decides.{nat_tests}
use lib.Pointwise.{pointwise}
use Rattle.prefix_model.specs.Spelling.{IsBytes}
use Rattle.prefix_io.specs.Causes.{Rose}
use Rattle.prefix_io.specs.Streams.{AppendsPrefix}
use Rattle.prefix_text.specs.Commands.{is_compact, command_of, command_in, words_given}
use Rattle.prefix_text.specs.Forms.{same_bytes}
use Rattle.prefix_text.specs.declared.command.Command.{Command}
use Rattle.prefix_text.specs.declared.command.Command.TheVariants.{Compact, Fill, Consistent, Check, Dump, Lookup, Cover, Build, Generate}
use Rattle.prefix_app.specs.Compacted.{DidNotRise, max_input}
use Rattle.prefix_app.specs.Endings.{EndsIn, IsEndingStatus, ending_status, ending_line}
use Rattle.prefix_app.specs.Outcome.{Outcome, ends, gives, outcome, outcome_in, outcome_of, over_bytes, reads_input}
use Rattle.prefix_app.specs.Runs.{HasLine, HasStatus, WritesOutput, WritesPart, comes_after_reading, has_own_line, reads, reads_some}
use Rattle.prefix_app.specs.Statuses.{line_of}
use Rattle.prefix_app.specs.Steps.{IsInput, IsReadStatus}
use Rattle.prefix_app.specs.Told.{AppendsThen, AsTold, ReadsAll, TakesThen, WhereTold}
use Rattle.prefix_app.specs.declared.ending.Ending.{Ending}
use Rattle.prefix_app.specs.declared.status.Status.{Status}
use Rattle.prefix_app.specs.declared.status.Status.TheVariants.{Done, Refused, Usage, ReadFault, WriteFault, NoMemory, Overflow, TooLong, BadLine}

-- ---- bytes that are told

pub where_told : (left : Option (List ℕ)) (P : List ℕ → Type 0) → AsTold left P → WhereTold left P
where_told None P h = tt
where_told (Some bytes) P h = h

where_any : (left : Option (List ℕ)) (P : List ℕ → Type 0) → ((bytes : List ℕ) → P bytes) → WhereTold left P
where_any None P f = tt
where_any (Some bytes) P f = f bytes

pub where_then : (left : Option (List ℕ)) (P Q : List ℕ → Type 0) → ((bytes : List ℕ) → P bytes → Q bytes) → WhereTold left P → WhereTold left Q
where_then None P Q f h = tt
where_then (Some bytes) P Q f h = f bytes h

pub where_appended : (old new : Option (List ℕ)) (P Q : List ℕ → Type 0) → ((bytes : List ℕ) → P bytes → Q bytes) → AppendsThen old new P → AppendsThen old new Q
where_appended None new P Q f h = tt
where_appended (Some before) None P Q f h = absurd h
where_appended (Some before) (Some after) P Q f (bytes, e, p) = (bytes, e, f bytes p)

pub appends_prefix : (old mid new : Option (List ℕ)) (bytes : List ℕ) → Appends old mid bytes → Keeps mid new → AppendsPrefix old new bytes
appends_prefix None mid new bytes a k = tt
appends_prefix (Some xs) None new bytes a k = absurd a
appends_prefix (Some xs) (Some ys) None bytes a k = absurd k
appends_prefix (Some xs) (Some ys) (Some zs) bytes a k = (length bytes, k ∙ (a ∙ ap (λ t. xs ++ t) (sym (take-length bytes))))

-- ---- words

false_true : {A : Type 0} → ◌≡◌ {A = Bool} false true → A
false_true h = cc

compact_in : (ws : List (List ℕ)) → pointwise same_bytes ws (codes "compact" ∷ []) ≡ true → command_in ws ≡ Some Compact
compact_in [] h = false_true h
compact_in (name ∷ []) h = by (same_bytes name (codes "compact")) _ h
  where
    by : (b : Bool) (other : Option Command) → (b && true) ≡ true → (if b then Some Compact else other) ≡ Some Compact
    by true other e = refl
    by false other e = false_true e
compact_in (name ∷ other ∷ ws) h = by (same_bytes name (codes "compact")) h
  where
    by : {A : Type 0} (b : Bool) → (b && false) ≡ true → A
    by true e = false_true e
    by false e = false_true e

pub compact_given : (words : List (String Global)) → is_compact words ≡ true → command_of words ≡ Some Compact
compact_given words h = compact_in (words_given words) h

-- ---- the outcome of words

outcome_given : (words : List (String Global)) (c : Command) (bytes : List ℕ) → command_of words ≡ Some c → outcome words bytes ≡ outcome_of c bytes
unfolding outcome
outcome_given words c bytes e = ap (λ o. outcome_in o bytes) e

outcome_none : (words : List (String Global)) (bytes : List ℕ) → command_of words ≡ None → outcome words bytes ≡ ends Usage (line_of Usage)
unfolding outcome
outcome_none words bytes e = ap (λ o. outcome_in o bytes) e

no_test : (reads t : Bool) (a b : Outcome) → t ≡ false → (if reads && t then a else b) ≡ b
no_test true t a b e = rw e refl
no_test false t a b e = refl

a_test : (reads t : Bool) (a b : Outcome) → reads ≡ true → t ≡ true → (if reads && t then a else b) ≡ a
a_test reads t a b e f = rw (e, f) refl

within_over : (c : Command) (all : List ℕ) → length all ≤ max_input → outcome_of c all ≡ over_bytes c all
within_over c all l =
    let t : nat_lt max_input (length all) ≡ false = grind (arith, nat_tests) in
    no_test (reads_input c) (nat_lt max_input (length all)) (ends TooLong (line_of TooLong)) (over_bytes c all) t

too_long_over : (c : Command) (bytes : List ℕ) → reads_input c ≡ true → max_input < length bytes → outcome_of c bytes ≡ ends TooLong (line_of TooLong)
too_long_over c bytes r l =
    let t : nat_lt max_input (length bytes) ≡ true = grind (arith, nat_tests) in
    a_test (reads_input c) (nat_lt max_input (length bytes)) (ends TooLong (line_of TooLong)) (over_bytes c bytes) r t

-- a command that reads no input has one outcome
same_over : (c : Command) (bytes all : List ℕ) → (reads_input c ≡ true → bytes ≡ all) → outcome_of c bytes ≡ outcome_of c all
same_over Compact bytes all h = ap (outcome_of Compact) (h refl)
same_over (Fill v) bytes all h = ap (outcome_of (Fill v)) (h refl)
same_over Consistent bytes all h = ap (outcome_of Consistent) (h refl)
same_over Check bytes all h = ap (outcome_of Check) (h refl)
same_over Dump bytes all h = ap (outcome_of Dump) (h refl)
same_over (Lookup p) bytes all h = ap (outcome_of (Lookup p)) (h refl)
same_over (Cover p) bytes all h = ap (outcome_of (Cover p)) (h refl)
same_over Build bytes all h = ap (outcome_of Build) (h refl)
same_over (Generate seed count) bytes all h = refl

all_read : (bytes : List ℕ) (new : Option (List ℕ)) (all : List ℕ) → ReadsAll (Some bytes) new all → bytes ≡ all
all_read bytes None all h = absurd h
all_read bytes (Some rest) all h = h.0

pub input_given : (c : Command) (old new : Option (List ℕ)) (all given : List ℕ) → given ≡ all → IsInput c old new all → IsInput c old new given
input_given c old new all given e i = subst (IsInput c old new) (sym e) i

-- what holds wherever the outcome is that of the bytes that were read
pub as_read : (c : Command) (old new : Option (List ℕ)) (all : List ℕ) (P : List ℕ → Type 0) → IsInput c old new all → ((bytes : List ℕ) → outcome_of c bytes ≡ over_bytes c all → P bytes) → AsTold old P
as_read c None new all P i f = (all, f all (within_over c all i.within))
as_read c (Some bytes) new all P i f = f bytes (same_over c bytes all (λ r. all_read bytes new all (i.whole r)) ∙ within_over c all i.within)

pub where_read : (c : Command) (old new : Option (List ℕ)) (all : List ℕ) (P : List ℕ → Type 0) → IsInput c old new all → (reads_input c ≡ true) → (new ≡ Some [] → P all) → WhereTold old P
where_read c None new all P i r f = tt
where_read c (Some bytes) None all P i r f = absurd (i.whole r)
where_read c (Some bytes) (Some rest) all P i r f = let e = i.whole r in subst P (sym e.0) (f (ap Some e.1))

-- what is known of all the bytes, where the command reads them
pub all_told : (c : Command) (old new : Option (List ℕ)) (all : List ℕ) → IsInput c old new all → reads_input c ≡ true → WhereTold old (λ bytes. (length bytes ≤ max_input) × IsBytes bytes × (new ≡ Some []))
all_told c old new all i r = where_read c old new all (λ bytes. (length bytes ≤ max_input) × IsBytes bytes × (new ≡ Some [])) i r (λ n. (i.within, i.bytes r, n))

pub reads_is : (words : List (String Global)) (c : Command) → command_of words ≡ Some c → reads words ≡ reads_input c
reads_is words c e = ap reads_some e

pub reads_none : {A : Type 0} (words : List (String Global)) → None ≡ command_of words → reads words ≡ true → A
reads_none words e h = false_true (ap reads_some e ∙ h)

pub some_same : {A : Type 0} {a b : A} → ◌≡◌ {A = Option A} (Some a) (Some b) → a ≡ b
some_same h = cc

pub some_none : {A B : Type 0} {a : A} → ◌≡◌ {A = Option A} (Some a) None → B
some_none h = cc

-- the statuses with which the steps end, one by one
pub not_read : {A : Type 0} {r s : Status} (t : Status) → r ≡ s → IsReadStatus s → r ≡ t → (ReadFault ≡ t → A) → (TooLong ≡ t → A) → (NoMemory ≡ t → A) → A
not_read t e (inl h) k f g m = f (sym (e ∙ h) ∙ k)
not_read t e (inr (inl h)) k f g m = g (sym (e ∙ h) ∙ k)
not_read t e (inr (inr h)) k f g m = m (sym (e ∙ h) ∙ k)

pub not_ending : {A : Type 0} {r : Status} (t : Status) → IsEndingStatus r → r ≡ t → (Refused ≡ t → A) → (Overflow ≡ t → A) → (NoMemory ≡ t → A) → (BadLine ≡ t → A) → A
not_ending t (inl h) k f g m b = f (sym h ∙ k)
not_ending t (inr (inl h)) k f g m b = g (sym h ∙ k)
not_ending t (inr (inr (inl h))) k f g m b = m (sym h ∙ k)
not_ending t (inr (inr (inr h))) k f g m b = b (sym h ∙ k)

pub read_not_after : {A : Type 0} {r s : Status} → r ≡ s → IsReadStatus s → comes_after_reading r ≡ true → A
read_not_after e (inl h) k = false_true (sym (ap comes_after_reading (e ∙ h)) ∙ k)
read_not_after e (inr (inl h)) k = false_true (sym (ap comes_after_reading (e ∙ h)) ∙ k)
read_not_after e (inr (inr h)) k = false_true (sym (ap comes_after_reading (e ∙ h)) ∙ k)

-- ---- the line and the status of a run

module _ (words : List (String Global)) (left : Option (List ℕ)) where
  pub own_line : (r s : Status) → r ≡ s → has_own_line s ≡ true → HasLine words left r (line_of s)
  own_line r s e h = inl (ap has_own_line e ∙ h, ap line_of (sym e))

  pub usage_status : (r : Status) → r ≡ Usage → command_of words ≡ None → HasStatus words left r
  usage_status r e h = inr (where_any left (λ bytes. r ≡ (outcome words bytes).status) (λ bytes. e ∙ sym (ap (λ o. o.status) (outcome_none words bytes h))))

  -- where nothing failed
  pub complete : (r : Status) → HasStatus words left r → (r ≡ ReadFault → ⊥) → (r ≡ WriteFault → ⊥) → WhereTold left (λ bytes. (r ≡ (outcome words bytes).status) ⊎ (r ≡ NoMemory))
  complete r (inl (inl e)) f g = absurd (f e)
  complete r (inl (inr (inl e))) f g = absurd (g e)
  complete r (inl (inr (inr e))) f g = where_any left (λ bytes. (r ≡ (outcome words bytes).status) ⊎ (r ≡ NoMemory)) (λ bytes. inr e)
  complete r (inr h) f g = where_then left (λ bytes. r ≡ (outcome words bytes).status) (λ bytes. (r ≡ (outcome words bytes).status) ⊎ (r ≡ NoMemory)) (λ bytes e. inl e) h

  -- a line that was written
  pub line_told : (r : Status) (before after : Option (List ℕ)) (line : List ℕ) → HasLine words left r line → AppendsPrefix before after line → (told : List ℕ) × HasLine words left r told × AppendsPrefix before after told
  line_told r before after line h a = (line, h, a)

  pub whole_line_told : {A : Type 0} (r : Status) (before after : Option (List ℕ)) (line : List ℕ) → HasLine words left r line → A ⊎ AppendsThen before after (λ appended. appended ≡ line) → A ⊎ AppendsThen before after (HasLine words left r)
  whole_line_told r before after line h (inl a) = inl a
  whole_line_told r before after line h (inr a) = inr (where_appended before after (λ appended. appended ≡ line) (HasLine words left r) (λ t e. subst (HasLine words left r) (sym e) h) a)

  -- a run that is done has no line
  done_line : HasLine words left Done []
  unfolding line_of
  done_line = inl (refl, refl)

  pub no_line : (told : Option (List ℕ)) → (line : List ℕ) × HasLine words left Done line × AppendsPrefix told told line
  no_line None = ([], done_line, tt)
  no_line (Some bytes) = ([], done_line, (0, sym (append-nil bytes)))

  pub no_line_whole : (told : Option (List ℕ)) → AppendsThen told told (HasLine words left Done)
  no_line_whole None = tt
  no_line_whole (Some bytes) = ([], sym (append-nil bytes), done_line)

-- a count that did not rise
pub no_fault : (before now : ℕ) → DidNotRise before now → Rose before now → ⊥
no_fault before now kept rose = let k = kept.kept in let l = kept.below_end in omega arith

module _ (words : List (String Global)) (c : Command) (given : command_of words ≡ Some c) where
  module _ (old new : Option (List ℕ)) (all : List ℕ) (input : IsInput c old new all) where
    -- a command that ended without an output
    module _ (r : Status) (e : Ending) (same : r ≡ ending_status e) where
      pub ended_line : EndsIn (over_bytes c all) e → HasLine words old r (ending_line e)
      ended_line (inl is) = inr (as_read c old new all (λ bytes. (r ≡ (outcome words bytes).status) × (ending_line e ≡ (outcome words bytes).line)) input (λ bytes h.
          let o : outcome words bytes ≡ ends (ending_status e) (ending_line e) = outcome_given words c bytes given ∙ (h ∙ is) in
          (same ∙ sym (ap (λ x. x.status) o), sym (ap (λ x. x.line) o))))
      ended_line (inr (m, l)) = inl (ap has_own_line (same ∙ m), l ∙ ap line_of (sym (same ∙ m)))

      pub ended_status : EndsIn (over_bytes c all) e → HasStatus words old r
      ended_status (inl is) = inr (where_told old (λ bytes. r ≡ (outcome words bytes).status) (as_read c old new all (λ bytes. r ≡ (outcome words bytes).status) input (λ bytes h.
          same ∙ sym (ap (λ x. x.status) (outcome_given words c bytes given ∙ (h ∙ is))))))
      ended_status (inr (m, l)) = inl (inr (inr (same ∙ m)))

    -- a command that gave an output
    module _ (output : List ℕ) (made : over_bytes c all ≡ gives output) where
      pub done_status : HasStatus words old Done
      done_status = inr (where_told old (λ bytes. Done ≡ (outcome words bytes).status) (as_read c old new all (λ bytes. Done ≡ (outcome words bytes).status) input (λ bytes h.
          sym (ap (λ x. x.status) (outcome_given words c bytes given ∙ (h ∙ made))))))

      pub done_output : (given_bytes : List ℕ) (before after : Option (List ℕ)) → given_bytes ≡ output → AppendsThen before after (λ appended. appended ≡ given_bytes) → WritesOutput words old before after
      done_output given_bytes before after f a = as_read c old new all (λ bytes. AppendsThen before after (λ out. out ≡ (outcome words bytes).output)) input (λ bytes h.
          where_appended before after (λ appended. appended ≡ given_bytes) (λ out. out ≡ (outcome words bytes).output)
          (λ appended k. k ∙ (f ∙ sym (ap (λ x. x.output) (outcome_given words c bytes given ∙ (h ∙ made))))) a)

      pub part_output : (given_bytes : List ℕ) (before after : Option (List ℕ)) → given_bytes ≡ output → AppendsPrefix before after given_bytes → WritesPart words old before after
      part_output given_bytes before after f a = as_read c old new all (λ bytes. ((outcome words bytes).status ≡ Done) × AppendsPrefix before after (outcome words bytes).output) input (λ bytes h.
          let o : outcome words bytes ≡ gives output = outcome_given words c bytes given ∙ (h ∙ made) in
          (ap (λ x. x.status) o, subst (AppendsPrefix before after) (f ∙ sym (ap (λ x. x.output) o)) a))

  -- a read that ended without the input
  module _ (old new : Option (List ℕ)) where
    long_told : (r : Status) (A : Type 0) → r ≡ TooLong → reads_input c ≡ true → A → TakesThen old new (λ taken _. (length taken ≤ max_input + 1) × (A ↔ (length taken ≡ max_input + 1))) → WhereTold old (λ bytes. r ≡ (outcome words bytes).status)
    long_told r A e reads a t = by old new t
      where
        by : (before after : Option (List ℕ)) → TakesThen before after (λ taken _. (length taken ≤ max_input + 1) × (A ↔ (length taken ≡ max_input + 1))) → WhereTold before (λ bytes. r ≡ (outcome words bytes).status)
        by None after h = tt
        by (Some bytes) None h = absurd h
        by (Some bytes) (Some rest) (taken, joined, tells) =
            let n : length taken ≡ max_input + 1 = tells.1.0 a in
            let l : max_input < length bytes = omega (arith, length-append taken rest, ap length joined) in
            e ∙ sym (ap (λ x. x.status) (outcome_given words c bytes given ∙ too_long_over c bytes reads l))

    pub read_status : (r s : Status) (A : Type 0) → r ≡ s → IsReadStatus s → reads_input c ≡ true → (s ≡ TooLong → A) → TakesThen old new (λ taken _. (length taken ≤ max_input + 1) × (A ↔ (length taken ≡ max_input + 1))) → HasStatus words old r
    read_status r s A e (inl h) reads f t = inl (inl (e ∙ h))
    read_status r s A e (inr (inl h)) reads f t = inr (long_told r A (e ∙ h) reads (f h) t)
    read_status r s A e (inr (inr h)) reads f t = inl (inr (inr (e ∙ h)))

pub read_has_line : {s : Status} → IsReadStatus s → has_own_line s ≡ true
read_has_line (inl e) = ap has_own_line e
read_has_line (inr (inl e)) = ap has_own_line e
read_has_line (inr (inr e)) = ap has_own_line e

pub output_same : (P : List ℕ → Type 0) (whole given output : List ℕ) → given ≡ whole → output ≡ given → P whole → P output
output_same P whole given output e f h = subst P (sym (f ∙ e)) h

-- how many bytes were taken, and whether these were too many, by a status or a result
abbrev pub TellsTooLong : Option (List ℕ) → Option (List ℕ) → Type 0 → Type 0
TellsTooLong old new A = TakesThen old new (λ taken _. (length taken ≤ max_input + 1) × (A ↔ (length taken ≡ max_input + 1)))

-- one fact for another that comes just where it does
pub tells_too_long : (old new : Option (List ℕ)) (A B : Type 0) → (A → B) → (B → A) → TellsTooLong old new A → TellsTooLong old new B
tells_too_long None new A B f g h = tt
tells_too_long (Some bytes) None A B f g h = absurd h
tells_too_long (Some bytes) (Some rest) A B f g (taken, e, tells) = (taken, e, (tells.0, ((λ b. tells.1.0 (g b)), (λ l. f (tells.1.1 l)))))
