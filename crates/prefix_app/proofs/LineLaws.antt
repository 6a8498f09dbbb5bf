-- Tables of the entries of lines.
use Rattle.std.proofs.Common.{◌≡◌, ℕ, List, [], ◌∷◌, Option, refl, sym, ap, ◌∙◌}
use Rattle.std.specs.List.{cons_option}
use Rattle.either.specs.declared.Either.TheVariants.{Left, Right}
use Rattle.prefix_model.specs.Tables.{KeyMap}
use Rattle.prefix_model.specs.Building.{insert_all}
use Rattle.prefix_text.specs.Forms.{Entry}
use Rattle.prefix_text.specs.Lines.{entries_of, entry_of, lines}
use Rattle.prefix_app.specs.Outcome.{first_entries, second_entries}

-- the first entry of some is stored before the others
pub first_stored : (m : KeyMap ℕ) (e : Entry) (es : List Entry) → insert_all (insert_all m (first_entries (e ∷ []))) (first_entries es) ≡ insert_all m (first_entries (e ∷ es))
first_stored m (Left p, v) es = refl
first_stored m (Right p, v) es = refl

pub second_stored : (m : KeyMap ℕ) (e : Entry) (es : List Entry) → insert_all (insert_all m (second_entries (e ∷ []))) (second_entries es) ≡ insert_all m (second_entries (e ∷ es))
second_stored m (Left p, v) es = refl
second_stored m (Right p, v) es = refl

-- what the first line adds to the entries of the others
pub entries_behind : (rest line more : List ℕ) (o : Option Entry) → lines rest ≡ line ∷ lines more → o ≡ entry_of line → entries_of (lines rest) ≡ cons_option o (entries_of (lines more))
entries_behind rest line more o e f = ap entries_of e ∙ ap (λ x. cons_option x (entries_of (lines more))) (sym f)
