-- The law of live views, out of the fact that they keep.
use Rattle.std.specs.Prelude.{◌≡◌, ℕ, ◌≤◌, true}
use Rattle.std.proofs.Common.{arith}
use Rattle.std.specs.FinMap as map
use Rattle.std.specs.Coded.{coded_ℕ, coded_bool, le_prop}
use base.Stored.{Coded-set}
use Rattle.std.proofs.Math.Logic.{∥∥₁_elim}
use Rattle.prefix_model.specs.Keys.{low_bits}
use Rattle.prefix_model.proofs.KeyNumbers.{length-low_bits}
use Rattle.prefix_model.specs.Walks.{node_of, KeepsPositions}
use Rattle.prefix_model.specs.TableViews.{TableView}
use Rattle.prefix_model.specs.Views.{IsPlace}
use Rattle.prefix_view.specs.LiveViews.{IsTrieRef, seen_at}

module _ {T : Type 0} (w : ℕ) (t : TableView T) (at n len : ℕ) (placed : ∥ IsTrieRef w t at n len ∥₁) where
  -- each field says that two values are equal or in order, so it has one proof
  pub live_keeps : KeepsPositions w t.entries t.kept
  live_keeps = record {
    width = λ k h. ∥∥₁_elim placed le_prop (λ p. p.keeps.width k h);
    kept_width = λ k h. ∥∥₁_elim placed le_prop (λ p. p.keeps.kept_width k h);
    lengths = λ k h. ∥∥₁_elim placed (Coded-set coded_ℕ _ _) (λ p. p.keeps.lengths k h);
    root = ∥∥₁_elim placed (Coded-set coded_bool _ _) (λ p. p.keeps.root);
    above = λ k c l h. ∥∥₁_elim placed (Coded-set coded_bool _ _) (λ p. p.keeps.above k c l h);
    stored = λ k r l h. ∥∥₁_elim placed (Coded-set coded_bool _ _) (λ p. p.keeps.stored k r l h);
  }

  pub live_within : len ≤ w
  live_within = ∥∥₁_elim placed le_prop (λ p. p.within)

  pub live_kept : map.contains_key t.kept (node_of (low_bits len n)) ≡ true
  live_kept = ∥∥₁_elim placed (Coded-set coded_bool _ _) (λ p. p.kept)

  pub live_place : IsPlace w (seen_at t n len)
  live_place = record {
    keeps = live_keeps;
    within = let l = length-low_bits len n in let h = live_within in omega (arith, l, h);
    kept = live_kept;
  }
