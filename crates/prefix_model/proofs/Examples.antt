-- Worked examples by computation: what is spelled, what is least, and what is refused.
use Rattle.std.proofs.Common.{◌≡◌, ℕ, true, T, List, [], length, ap, ◌∙◌, refl, subst, None}
use Rattle.std.specs.Ordering.{nat_cmp}
use Rattle.std.specs.Cmp.{nat_cmp_total}
use Rattle.std.specs.FinMap.{is_sorted, from_entries}
use Rattle.prefix_model.specs.Keys.{KeyBits, key_cmp}
use Rattle.prefix_model.specs.Tables.{answer}
use Rattle.prefix_model.specs.LeastTable.{placed, least_table}
use Rattle.prefix_model.specs.Spelling.{spelling_of, u32_codec}
use Rattle.prefix_model.specs.Rows.{table, IsSpelled, HasLeast}
use Rattle.prefix_model.proofs.Entries.{held}
use Rattle.prefix_model.proofs.Fewest.Serving.{same_values}
use Rattle.prefix_model.proofs.Fewest.Tables.{get-from_entries}
use Rattle.prefix_model.proofs.Fewest.Alike.{placed_alike}
use Rattle.prefix_model.proofs.SortedEntries.{entries-from_entries}
use Rattle.prefix_model.proofs.Fewest.Wider.{wider, all_short, answers, answers_known, behind, placed_wider, placed_behind}

-- the spelling of the table of a list in key order
pub spelled : (es : List (KeyBits × ℕ)) (bytes : List ℕ) → T (is_sorted key_cmp es) → spelling_of u32_codec es ≡ bytes → IsSpelled es bytes
unfolding IsSpelled
spelled es bytes sorted e = ap (spelling_of u32_codec) (entries-from_entries es sorted) ∙ e

-- the least table of entries behind p, whose keys go on by n bits or fewer
pub least_behind : (p : KeyBits) (n d : ℕ) (es fs : List (KeyBits × ℕ)) (w : ℕ) (gs hs : List (KeyBits × ℕ)) → wider (length p) (wider n d) ≡ w → behind p es ≡ gs → behind p fs ≡ hs
    → all_short n es ≡ true → placed nat_cmp n (answers es) None ≡ fs → HasLeast w gs hs
unfolding HasLeast
least_behind p n d es fs w gs hs bits before after short e = subst (λ l. least_table nat_cmp w (table gs) ≡ table l) after (subst (λ l. least_table nat_cmp w (table l) ≡ table (behind p fs)) before
    (subst (λ v. least_table nat_cmp v (table (behind p es)) ≡ table (behind p fs)) bits (ap from_entries
    (placed_alike nat_cmp (wider (length p) (wider n d)) (answer (table (behind p es))) (answers (behind p es)) None (λ k l. same_values _ (held (behind p es)) (get-from_entries (behind p es)) None k)
    ∙ placed_behind nat_cmp_total p (wider n d) es ∙ ap (behind p) (placed_wider nat_cmp_total n d (answers es) None (answers_known n es short) ∙ e)))))

-- the least table of entries whose keys have n bits or fewer
pub least : (n d w : ℕ) (es fs : List (KeyBits × ℕ)) → wider n d ≡ w → all_short n es ≡ true → placed nat_cmp n (answers es) None ≡ fs → HasLeast w es fs
least n d w es fs bits short e = least_behind [] n d es fs w es fs bits refl refl short e
