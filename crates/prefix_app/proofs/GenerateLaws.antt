-- Tables of the entries that a seed gives.
use Rattle.std.proofs.Common.{◌≡◌, ℕ, zero, suc, ◌-◌, ◌<◌, ◌≤◌, ◌||◌, length, Bool, true, false, List, [], ◌∷◌, sym, ap, ◌∙◌, arith, if◌then◌else◌}
use Rattle.std.specs.FinMap.{len}
use Rattle.prefix_model.specs.Tables.{KeyMap}
use Rattle.prefix_model.specs.Building.{insert_all}
use Rattle.prefix_layout.specs.declared.error.ArchiveError.TheVariants.{NodeIndexOverflow, DataIndexOverflow}
use Rattle.prefix_text.specs.Forms.{Entry}
use Rattle.prefix_text.specs.Generator.{first_generated, generated}
use Rattle.prefix_text.specs.Texts.{generated_text}
use Rattle.prefix_text.specs.declared.text.Sizes.{Sizes}
use Rattle.prefix_app.specs.Compacted.{least}
use Rattle.prefix_app.specs.Outcome.{archive, built, ends, first_entries, generates, gives, has_many_entries, has_many_positions, second_entries, sizes, writes}
use Rattle.prefix_app.specs.Statuses.{refusal}
use Rattle.prefix_app.specs.declared.status.Status.TheVariants as status
use Rattle.prefix_app.proofs.LineLaws.{first_stored, second_stored}

generated_first : (left x : ℕ) → 0 < left → generated left x ≡ (first_generated x).0 ∷ generated (left - 1) (first_generated x).1
generated_first zero x l = absurd (omega arith)
generated_first (suc n) x l = let e : n ≡ suc n - 1 = omega arith in ap (λ i. (first_generated x).0 ∷ generated i (first_generated x).1) e

-- the entries that are left, once the first is drawn
drawn_first : (left x state : ℕ) (entry : Entry) → 0 < left → entry ≡ (first_generated x).0 → state ≡ (first_generated x).1 → entry ∷ generated (left - 1) state ≡ generated left x
drawn_first left x state entry l e f = ap (λ y. y ∷ generated (left - 1) state) e ∙ (ap (λ s. (first_generated x).0 ∷ generated (left - 1) s) f ∙ sym (generated_first left x l))

-- and stored
module _ (m n target : KeyMap ℕ) (left x state : ℕ) (entry : Entry) (l : 0 < left) (e : entry ≡ (first_generated x).0) (f : state ≡ (first_generated x).1) where
  pub step_first : n ≡ insert_all m (first_entries (entry ∷ [])) → insert_all m (first_entries (generated left x)) ≡ target → insert_all n (first_entries (generated (left - 1) state)) ≡ target
  step_first g h = ap (λ y. insert_all y (first_entries (generated (left - 1) state))) g ∙ (first_stored m entry (generated (left - 1) state) ∙ (ap (λ es. insert_all m (first_entries es)) (drawn_first left x state entry l e f) ∙ h))

  pub step_second : n ≡ insert_all m (second_entries (entry ∷ [])) → insert_all m (second_entries (generated left x)) ≡ target → insert_all n (second_entries (generated (left - 1) state)) ≡ target
  step_second g h = ap (λ y. insert_all y (second_entries (generated (left - 1) state))) g ∙ (second_stored m entry (generated (left - 1) state) ∙ (ap (λ es. insert_all m (second_entries es)) (drawn_first left x state entry l e f) ∙ h))

-- where an archive is written, it is that of the tables
pub written_is : (m n : KeyMap ℕ) (output : List ℕ) → writes m n ≡ gives output → output ≡ archive m n
written_is m n output e = by (has_many_positions m || has_many_positions n) (has_many_entries m || has_many_entries n) e
  where
    not_done : {A : Type 0} → status.Overflow ≡ status.Done → A
    not_done h = cc

    by : (p q : Bool) → (if p then ends status.Overflow (refusal NodeIndexOverflow) else (if q then ends status.Overflow (refusal DataIndexOverflow) else gives (archive m n))) ≡ gives output → output ≡ archive m n
    by true q h = not_done (ap (λ o. o.status) h)
    by false true h = not_done (ap (λ o. o.status) h)
    by false false h = sym (ap (λ o. o.output) h)

-- once none is left, the tables are whole
pub all_first : (m target : KeyMap ℕ) (left x : ℕ) → left ≤ 0 → insert_all m (first_entries (generated left x)) ≡ target → m ≡ target
all_first m target zero x l h = h
all_first m target (suc n) x l h = absurd (omega (arith, l))

pub all_second : (m target : KeyMap ℕ) (left x : ℕ) → left ≤ 0 → insert_all m (second_entries (generated left x)) ≡ target → m ≡ target
all_second m target zero x l h = h
all_second m target (suc n) x l h = absurd (omega (arith, l))

pub generated_told : (m n : KeyMap ℕ) (es : List Entry) (text : List ℕ) → m ≡ built (first_entries es) → n ≡ built (second_entries es) → text ≡ generated_text (sizes m n) → gives (generates es) ≡ gives text
unfolding generates
generated_told m n es text e f h = ap gives (sym (h ∙ (λ i. generated_text (sizes (e i) (f i)))))

-- what is counted of two tables, by the parts
pub sizes_same : (m n : KeyMap ℕ) (a b c d e f : ℕ) → a ≡ len m → b ≡ len n → c ≡ len (least 32 m) → d ≡ len (least 128 n) → e ≡ length (archive m n) → f ≡ length (archive (least 32 m) (least 128 n))
    → ◌≡◌ {A = Sizes} (record { first_before = a; second_before = b; first_after = c; second_after = d; bytes_before = e; bytes_after = f }) (sizes m n)
unfolding sizes
sizes_same m n a b c d e f g h j k l o = λ i. record { first_before = g i; second_before = h i; first_after = j i; second_after = k i; bytes_before = l i; bytes_after = o i }
