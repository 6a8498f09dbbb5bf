-- Aggregated tables fit the width of the prefixes.
use Rattle.std.proofs.Common.{◌≡◌, ℕ, sym, subst}
use Rattle.std.specs.declared.cmp.Ordering.{Ordering}
use Rattle.std.specs.Cmp.{IsTotalOrder}
use Rattle.std.specs.FinMap as map
use Rattle.std.specs.FinMap.{IsAntisymmetric}
use Rattle.prefix_model.specs.Keys.{KeyBits}
use Rattle.prefix_model.specs.Tables.{KeyMap, HasWidth}
use Rattle.prefix_model.specs.LeastTable.{least_table}
use Rattle.prefix_model.specs.Aggregates.{IsSetAggregate}
use Rattle.prefix_model.specs.Positions.{position_set}
use Rattle.prefix_model.proofs.Fewest.Tables.{keeps_width}
use Rattle.prefix_model.specs.TableViews.{TableView}
use Rattle.prefix_map.specs.MapViews.{FitsIn}
use Rattle.prefix_map.proofs.Fits.{fits_exact, key_left}

module _ {T : Type 0} (w v : ℕ) (same : v ≡ w) where
  pub fits_least : (cmp : T → T → Ordering) → IsTotalOrder cmp → IsAntisymmetric cmp → (m : KeyMap T) (new : TableView T) → new.entries ≡ least_table cmp v m → new.kept ≡ position_set new.entries → FitsIn w new
  fits_least cmp total exact m new least kept = subst (λ n. FitsIn n new) same (fits_exact v new (subst (HasWidth v) (sym least) (λ k h. keeps_width total exact v m k h)) kept)

  pub fits_part : (m : KeyMap T) (p : KeyBits → _) (new : TableView T) → HasWidth w m → new.entries ≡ map.retain_keys m p → new.kept ≡ position_set new.entries → FitsIn w new
  fits_part m p new wide part kept = fits_exact w new (subst (HasWidth w) (sym part) (λ k h. wide k (key_left m p k h))) kept

pub fits_members : (w v : ℕ) → v ≡ w → (m : KeyMap (Unit {0})) (new : TableView (Unit {0})) → IsSetAggregate v m new.entries → new.kept ≡ position_set new.entries → FitsIn w new
fits_members w v same m new is kept = subst (λ n. FitsIn n new) same (fits_exact v new (λ k h. ((is k).0 h).0) kept)
