-- Lines of entries that are printed, read again.
use Rattle.std.proofs.Common.{◌≡◌, ℕ, ◌+◌, ◌-◌, ◌^◌, ◌<◌, ◌==◌, List, [], ◌∷◌, ◌++◌, refl, sym, ap, subst, ◌∙◌, arith, append_assoc, false, Option, Some, None, is_some, if◌then◌else◌, decimal}
use Rattle.std.proofs.lemmas.List.Elements.{All-nil, All-cons, All-append}
use Rattle.std.proofs.lemmas.List.Splits.{slice_split_at, slice_split_none}
use Rattle.std.specs.List.{All, AllByRecursion, cons_option}
use Rattle.either.specs.declared.Either.TheVariants.{Left, Right}
use Rattle.prefix_text.specs.Forms.{Entry, EitherPrefix, decimal_in, address_in, with_length}
use Rattle.prefix_text.specs.Lines.{lines, words_of, entry_in, entry_of, with_value, is_entry, first_bad, entries_of}
use Rattle.prefix_text.specs.Printing.{IsPrintable, DumpsAreRead}
use Rattle.prefix_text.specs.Texts.{hex_digits, entry_line, entry_text, dump_text}
use Rattle.prefix_text.proofs.LineLaws.{line_ends}
use Rattle.prefix_text.proofs.ReadBack.{IsInWord, address_read, address_in_word, decimal_read, decimal_in_word}

-- the four words of a line, with the spaces between them
line_with : ℕ → List ℕ → List ℕ → List ℕ → List ℕ
line_with f hs ls vs = (f ∷ []) ++ 32 ∷ (hs ++ 32 ∷ (ls ++ 32 ∷ vs))

line_is : (f : ℕ) (hs ls vs : List ℕ) → (f ∷ 32 ∷ []) ++ hs ++ (32 ∷ []) ++ ls ++ (32 ∷ []) ++ vs ≡ line_with f hs ls vs
unfolding line_with
line_is f hs ls vs = simp append_assoc

words_are : (f : ℕ) (hs ls vs : List ℕ) → (f == 32) ≡ false → IsInWord hs → IsInWord ls → IsInWord vs → words_of (line_with f hs ls vs) ≡ (f ∷ []) ∷ hs ∷ ls ∷ vs ∷ []
unfolding line_with
words_are f hs ls vs e h l v =
    let one : All (λ c. (c == 32) ≡ false) (f ∷ []) = All-cons (λ c. (c == 32) ≡ false) f [] e (All-nil (λ c. (c == 32) ≡ false)) in
    slice_split_at (λ c. c == 32) (f ∷ []) 32 (hs ++ 32 ∷ (ls ++ 32 ∷ vs)) one refl
    ∙ ap (λ ws. (f ∷ []) ∷ ws) (slice_split_at (λ c. c == 32) hs 32 (ls ++ 32 ∷ vs) h.no_space refl
    ∙ ap (λ ws. hs ∷ ws) (slice_split_at (λ c. c == 32) ls 32 vs l.no_space refl
    ∙ ap (λ ws. ls ∷ ws) (slice_split_none (λ c. c == 32) vs v.no_space)))

no_newline : (f : ℕ) (hs ls vs : List ℕ) → (f == 10) ≡ false → IsInWord hs → IsInWord ls → IsInWord vs → All (λ c. (c == 10) ≡ false) (line_with f hs ls vs)
unfolding line_with
no_newline f hs ls vs e h l v =
    let P : ℕ → Type 0 = λ c. (c == 10) ≡ false in
    All-cons P f (32 ∷ (hs ++ 32 ∷ (ls ++ 32 ∷ vs))) e (All-cons P 32 (hs ++ 32 ∷ (ls ++ 32 ∷ vs)) refl (All-append P hs (32 ∷ (ls ++ 32 ∷ vs)) h.no_newline
    (All-cons P 32 (ls ++ 32 ∷ vs) refl (All-append P ls (32 ∷ vs) l.no_newline (All-cons P 32 vs refl v.no_newline)))))

-- the line of an entry gives the entry, and has no newline byte
pub record IsReadLine (e : Entry) : Type 0 where
  pub read : entry_of (entry_line e) ≡ Some e
  pub one_line : All (λ c. (c == 10) ≡ false) (entry_line e)

both : (make : ℕ × ℕ → EitherPrefix) (a : Option ℕ) (n : Option ℕ) (v : Option ℕ) (x y z : ℕ) → a ≡ Some x → n ≡ Some y → v ≡ Some z → with_value (with_length make a n) v ≡ Some (make (x, y), z)
both make a n v x y z e f g = ap (λ t. with_value (with_length make t n) v) e ∙ (ap (λ t. with_value (with_length make (Some x) t) v) f ∙ ap (λ t. with_value (Some (make (x, y))) t) g)

small_value : (v : ℕ) → v < 2 ^ 32 → v < 2 ^ 64
small_value v l = omega arith

pub line_read : (e : Entry) → IsPrintable e → IsReadLine e
line_read (Left p, v) (a, n, l) =
    let h = address_in_word 8 p.0 a in
    let m = decimal_in_word p.1 (omega arith) in
    let w = decimal_in_word v (small_value v l) in
    let same = line_is 52 (hex_digits 8 p.0) (decimal p.1) (decimal v) in
    record {
      read = ap entry_of same ∙ (ap entry_in (words_are 52 (hex_digits 8 p.0) (decimal p.1) (decimal v) refl h m w)
          ∙ both Left (address_in 8 (hex_digits 8 p.0)) (decimal_in 32 (decimal p.1)) (decimal_in (2 ^ 32 - 1) (decimal v)) p.0 p.1 v
          (address_read 8 p.0 a) (decimal_read 32 p.1 n (omega arith)) (decimal_read (2 ^ 32 - 1) v (omega arith) (small_value v l)));
      one_line = let P : List ℕ → Type 0 = λ xs. All (λ c. (c == 10) ≡ false) xs in subst P (sym same) (no_newline 52 (hex_digits 8 p.0) (decimal p.1) (decimal v) refl h m w);
    }
line_read (Right p, v) (a, n, l) =
    let h = address_in_word 32 p.0 a in
    let m = decimal_in_word p.1 (omega arith) in
    let w = decimal_in_word v (small_value v l) in
    let same = line_is 54 (hex_digits 32 p.0) (decimal p.1) (decimal v) in
    record {
      read = ap entry_of same ∙ (ap entry_in (words_are 54 (hex_digits 32 p.0) (decimal p.1) (decimal v) refl h m w)
          ∙ both Right (address_in 32 (hex_digits 32 p.0)) (decimal_in 128 (decimal p.1)) (decimal_in (2 ^ 32 - 1) (decimal v)) p.0 p.1 v
          (address_read 32 p.0 a) (decimal_read 128 p.1 n (omega arith)) (decimal_read (2 ^ 32 - 1) v (omega arith) (small_value v l)));
      one_line = let P : List ℕ → Type 0 = λ xs. All (λ c. (c == 10) ≡ false) xs in subst P (sym same) (no_newline 54 (hex_digits 32 p.0) (decimal p.1) (decimal v) refl h m w);
    }

-- the first line of a dump
first_printed : (e : Entry) (rest : List ℕ) → IsReadLine e → lines (entry_text e ++ rest) ≡ entry_line e ∷ lines rest
first_printed e rest r = ap lines (append_assoc (entry_line e) (10 ∷ []) rest) ∙ line_ends (entry_line e) 10 rest r.one_line refl

none_bad : (n : ℕ) (es : List Entry) → AllByRecursion IsPrintable es → first_bad is_entry n (lines (dump_text es)) ≡ None
none_bad n [] h = refl
none_bad n (e ∷ es) (p, ps) =
    let r = line_read e p in
    ap (first_bad is_entry n) (first_printed e (dump_text es) r)
    ∙ (ap (λ o. if is_some o then first_bad is_entry (n + 1) (lines (dump_text es)) else Some n) r.read ∙ none_bad (n + 1) es ps)

all_read : (es : List Entry) → AllByRecursion IsPrintable es → entries_of (lines (dump_text es)) ≡ es
all_read [] h = refl
all_read (e ∷ es) (p, ps) =
    let r = line_read e p in
    ap entries_of (first_printed e (dump_text es) r)
    ∙ (ap (λ o. cons_option o (entries_of (lines (dump_text es)))) r.read ∙ ap (λ xs. e ∷ xs) (all_read es ps))

pub dumps_are_read : DumpsAreRead
dumps_are_read es h = (none_bad 1 es h, all_read es h)
