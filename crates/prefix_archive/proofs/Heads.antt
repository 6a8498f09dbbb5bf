-- The head of an archive of one family.
use Rattle.std.proofs.Common.{◌≡◌, ℕ, ◌^◌, ◌<◌, ◌≤◌, inl, inr, List, ◌++◌, length, drop, sym, ap, ◌∙◌, subst, arith, length-append}
use Rattle.std.specs.FinMap as map
use Rattle.std.proofs.lemmas.Bool.{cases_lt}
use Rattle.std.proofs.lemmas.List.{drop_at}
use Rattle.std.proofs.lemmas.Grind.{not_there}
use Rattle.prefix_model.specs.Tables.{KeyMap}
use Rattle.prefix_model.specs.Positions.{positions_in}
use Rattle.prefix_model.specs.Spelling.{Codec, Spells, word}
use Rattle.prefix_model.specs.FirstCause.{first_word}
use Rattle.prefix_model.proofs.Archive.Numbers.{length-word, first_word-word}
use Rattle.prefix_archive.specs.Causes.{IsTable}

two_words : (a b : ℕ) (rest : List ℕ) → 8 ≤ length (word a ++ (word b ++ rest))
two_words a b rest = omega (arith, length-append (word a) (word b ++ rest), length-append (word b) rest, length-word a, length-word b)

second_word : (a b : ℕ) (rest : List ℕ) → b < 2 ^ 32 → first_word (drop 4 (word a ++ (word b ++ rest))) ≡ b
second_word a b rest h = ap first_word (drop_at (word a) (word b ++ rest) 4 (length-word a)) ∙ first_word-word b rest h

module _ {V : Type 0} (codec : Codec V) (w : ℕ) (bytes : List ℕ) where
  head_spelled : (m : KeyMap V) → Spells codec w bytes m → 8 ≤ length bytes
  head_spelled m s = subst (λ t. 8 ≤ length t) (sym s.same) (two_words (length (positions_in m)) (length (map.entries m)) _)

  pub has_head : ∥ IsTable codec w bytes ∥₁ → 8 ≤ length bytes
  has_head t = elim (cases_lt (length bytes) 8) [ inl short ↦ absurd (not_there t (λ p. let h = head_spelled p.0 p.1 in omega arith)) | inr fine ↦ fine ]

  -- the second word counts the entries
  pub counts_entries : (m : KeyMap V) → Spells codec w bytes m → first_word (drop 4 bytes) ≡ map.len m
  counts_entries m s = ap (λ t. first_word (drop 4 t)) s.same ∙ (second_word (length (positions_in m)) (length (map.entries m)) _ s.entries_fit ∙ sym (map.len-entries m))
