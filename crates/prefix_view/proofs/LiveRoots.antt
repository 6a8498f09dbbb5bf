-- The view of a whole live table.
use Rattle.std.specs.Prelude.{◌≡◌, ℕ, ◌%◌, ◌≤◌, true, [], ◌++◌, length, Some}
use Rattle.std.proofs.Common.{refl, sym, ap, ◌∙◌, arith}
use Rattle.std.specs.FinMap as map_of
use borrow.Author.Tests.{eq-eqb}
use Rattle.prefix_model.specs.Keys.{KeyBits, low_bits, prefixes}
use Rattle.prefix_model.specs.Tables.{HasWidth}
use Rattle.prefix_model.specs.Positions.{has_node_length}
use Rattle.prefix_model.specs.Walks.{KeepsPositions}
use Rattle.prefix_model.proofs.KeyLemmas.{prefixes_in, filter_in}
use Rattle.prefix_model.specs.TableViews.{TableView, HoldsPositions}
use Rattle.prefix_view.specs.LiveViews.{IsTrieRef, seen_at}
use Rattle.prefix_model.specs.Views.{whole}
use Rattle.prefix_model.proofs.Nodes.{node_itself}

module _ {T : Type 0} (w : ℕ) (t : TableView T) where
  keeps : HasWidth w t.entries → ((p : KeyBits) → map_of.contains_key t.kept p ≡ true → length p ≤ w) → HoldsPositions t → KeepsPositions w t.entries t.kept
  keeps width kept h = record {
    width = width;
    kept_width = kept;
    lengths = λ p k. (h.lengths p k).0;
    root = h.root;
    above = h.above;
    stored = λ p r five s. h.stored (p ++ r) p s (filter_in has_node_length (prefixes (p ++ r)) p (eq-eqb (length p % 5) 0 five) (prefixes_in p r));
  }

  pub root_ref : (at : ℕ) → HasWidth w t.entries → ((p : KeyBits) → map_of.contains_key t.kept p ≡ true → length p ≤ w) → map_of.get t.places at ≡ Some [] → HoldsPositions t → IsTrieRef w t at 0 0
  unfolding low_bits
  root_ref at width kept named h = record {
    keeps = keeps width kept h;
    within = omega arith;
    small = omega arith;
    named = named ∙ ap (λ k. Some k) (sym (node_itself [] refl));
    kept = ap (map_of.contains_key t.kept) (node_itself [] refl) ∙ h.root;
  }

  -- the view at the root shows the whole table
  pub root_seen : seen_at t 0 0 ≡ whole t.entries t.kept
  unfolding low_bits
  root_seen = refl
