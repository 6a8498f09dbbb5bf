-- What is asked of archives, as it is printed.
use Rattle.std.proofs.Common.{◌≡◌, ◌↔◌, ℕ, ◌+◌, ◌-◌, ◌^◌, ◌==◌, ◌≤◌, Bool, true, false, List, [], ◌∷◌, ◌++◌, length, map, pos, Option, Some, None, refl, sym, ap, ◌∙◌, arith, append_assoc, append-nil, if◌then◌else◌}
use Rattle.std.specs.Prelude.{IsTrue}
use Rattle.std.specs.FinMap.{len}
use Rattle.std.proofs.lemmas.Bool.Decides.{nat_tests}
use Rattle.std.proofs.lemmas.Grind.{flat_map-append}
use Rattle.prefix_model.specs.Keys.{KeyBits}
use Rattle.prefix_model.specs.Tables.{KeyMap, answer}
use Rattle.prefix_model.specs.Coverage.{AllAnswered, IsCovered, answered, covered_addresses}
use Rattle.prefix_model.specs.Positions.{positions_in}
use Rattle.prefix_model.specs.Counts.{Counts}
use Rattle.prefix_model.proofs.Counting.CountLaws.{answered-all, all-answered}
use Rattle.prefix_text.specs.Forms.{EitherPrefix, Entry}
use Rattle.prefix_text.specs.Texts.{aggregate_text, cover_text, dump_text, entry_text}
use Rattle.prefix_text.specs.declared.text.Counts as text
use Rattle.prefix_app.specs.Outcome.{counts, gives}
use Rattle.prefix_app.specs.Questions.{addresses, covers_all}

-- ---- counts

none_where : (b : Bool) (x : ℕ) → b ≡ true → ◌≡◌ {A = Option ℕ} None (if b then None else Some x)
none_where b x e = rw e refl

some_where : (b : Bool) (x y : ℕ) → b ≡ false → y ≡ x → ◌≡◌ {A = Option ℕ} (Some y) (if b then None else Some x)
some_where b x y e f = rw (e, f) refl

same_number : (a b : ℕ) → a ≡ b → (a == b) ≡ true
same_number a b e = grind (arith, nat_tests)

number_same : (a b : ℕ) → (a == b) ≡ true → a ≡ b
number_same a b e = grind (arith, nat_tests)

false_where : (b : Bool) → (b ≡ true → ⊥) → b ≡ false
false_where false f = refl
false_where true f = absurd (f refl)

pub counted : (w : ℕ) (m : KeyMap ℕ) (r : Option ℕ) → Counts pos w (answer m) r → r ≡ addresses w m
counted w m None all = none_where (covered_addresses w m == 2 ^ w) (covered_addresses w m) (same_number (covered_addresses w m) (2 ^ w) (answered-all w (answer m) all))
counted w m (Some x) (some, e) =
    some_where (covered_addresses w m == 2 ^ w) (covered_addresses w m) x
    (false_where (covered_addresses w m == 2 ^ w) (λ t. some (all-answered w (answer m) (number_same (covered_addresses w m) (2 ^ w) t)))) (same_pos e)
  where
    same_pos : {a b : ℕ} → pos a ≡ pos b → a ≡ b
    same_pos h = cc

-- ---- coverage

covered_after : (w : ℕ) (m : KeyMap ℕ) (k : KeyBits) → length k ≤ w → IsCovered w m k ↔ AllAnswered (w - length k) (λ s. answer m (k ++ s))
covered_after w m k l = ((λ h s e. h s (omega (arith, e, l))), (λ h s e. h s (omega (arith, e, l))))

pub covers_told : (w : ℕ) (m : KeyMap ℕ) (k : KeyBits) (b : Bool) → length k ≤ w → IsTrue b ↔ IsCovered w m k → b ≡ covers_all w m k
covers_told w m k b l tells = same b (covers_all w m k)
    (λ t. same_number (answered (w - length k) (λ s. answer m (k ++ s))) (2 ^ (w - length k)) (answered-all (w - length k) (λ s. answer m (k ++ s)) ((covered_after w m k l).0 (tells.0 t))))
    (λ t. tells.1 ((covered_after w m k l).1 (all-answered (w - length k) (λ s. answer m (k ++ s)) (number_same (answered (w - length k) (λ s. answer m (k ++ s))) (2 ^ (w - length k)) t))))
  where
    same : (a b : Bool) → (a ≡ true → b ≡ true) → (b ≡ true → a ≡ true) → a ≡ b
    same true b f g = sym (f refl)
    same false true f g = g refl
    same false false f g = refl

-- ---- lines

-- a prefix and a value, by the parts of both
pub entry_same : (make : ℕ × ℕ → EitherPrefix) (p q : ℕ × ℕ) (n v : ℕ) → p ≡ q → n ≡ v → ◌≡◌ {A = Entry} (make p, n) (make q, v)
entry_same make p q n v e f = λ i. (make (e i), f i)

module _ (line : KeyBits × ℕ → Entry) where
  -- the first line has been appended
  pub pushed : (items new target : List ℕ) (all rest : List (KeyBits × ℕ)) (k : KeyBits) (v : ℕ) (e : Entry) → all ≡ (k, v) ∷ rest → e ≡ line (k, v) → new ≡ items ++ entry_text e
      → items ++ dump_text (map line all) ≡ target → new ++ dump_text (map line rest) ≡ target
  pushed items new target all rest k v e f g h t =
      ap (λ x. x ++ dump_text (map line rest)) (h ∙ ap (λ x. items ++ entry_text x) g)
      ∙ (append_assoc items (entry_text (line (k, v))) (dump_text (map line rest)) ∙ (ap (λ es. items ++ dump_text (map line es)) (sym f) ∙ t))

  -- all lines have been
  pub all_pushed : (items target : List ℕ) (all : List (KeyBits × ℕ)) → all ≡ [] → items ++ dump_text (map line all) ≡ target → items ≡ target
  all_pushed items target all e t = sym (append-nil items) ∙ (ap (λ es. items ++ dump_text (map line es)) (sym e) ∙ t)

-- what two tables print, one behind the other
pub dumped : (xs ys : List Entry) (old mid new : List ℕ) → old ≡ [] → mid ≡ old ++ dump_text xs → new ≡ mid ++ dump_text ys → gives (dump_text (xs ++ ys)) ≡ gives new
dumped xs ys old mid new e f g = ap gives (flat_map-append entry_text xs ys ∙ sym (g ∙ ap (λ x. x ++ dump_text ys) (f ∙ ap (λ x. x ++ dump_text xs) e)))

-- what a cover prints
pub cover_told : (es : List Entry) (b d : Bool) (old mid new : List ℕ) → b ≡ d → old ≡ [] → mid ≡ old ++ dump_text es → new ≡ mid ++ aggregate_text b → gives (cover_text es d) ≡ gives new
cover_told es b d old mid new h e f g = ap gives (sym (g ∙ (λ i. (f ∙ ap (λ x. x ++ dump_text es) e) i ++ aggregate_text (h i))))

-- what is counted of a table, by the parts
pub counts_same : (w : ℕ) (m : KeyMap ℕ) (a b : ℕ) (d : Option ℕ) → a ≡ length (positions_in m) → b ≡ len m → d ≡ addresses w m
    → ◌≡◌ {A = text.Counts} (record { nodes = a; entries = b; addresses = d }) (counts w m)
counts_same w m a b d e f g = λ i. record { nodes = e i; entries = f i; addresses = g i }
