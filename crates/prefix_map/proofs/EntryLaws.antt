-- Entries whose value is written.
use Rattle.std.proofs.Common.{◌≡◌, ◌≤◌, true, refl, sym, subst}
use Rattle.std.proofs.Math.Bool.{Bool-set}
use Rattle.std.specs.FinMap as map
use native.Mathlib.Bridge.{le_prop}
use Rattle.prefix_model.specs.Keys.{KeyBits}
use Rattle.prefix_table.specs.declared.prefixes.PrefixKey.{Ghosts}
use Rattle.prefix_map.specs.Entries.{Occupied, with_entry_value, contains_stored, IsWritten}
use Rattle.prefix_map.specs.MapViews.{with_value}
use Rattle.prefix_map.specs.declared.map.entry.OccupiedEntry.{OccupiedEntry}
use Rattle.prefix_model.proofs.StoredValues.{get_stored, insert_twice}

module _ {P T : Type 0} {g : Ghosts P} (o : OccupiedEntry P T g) where
  pub occupied_written : (k : KeyBits) → k ≡ g.key o.prefix → (w : T) (p : g.prefix_len o.prefix ≤ g.WIDTH) (q : map.contains_key (map.insert o.map.now.entries k w) (g.key o.prefix) ≡ true)
      → record { map = record o.map { now = with_value o.map.now k w }; prefix = o.prefix; fits = p; stored = q } ≡ with_entry_value o w
  occupied_written k same w =
      subst (λ (k : KeyBits). (p : g.prefix_len o.prefix ≤ g.WIDTH) (q : map.contains_key (map.insert o.map.now.entries k w) (g.key o.prefix) ≡ true)
      → record { map = record o.map { now = with_value o.map.now k w }; prefix = o.prefix; fits = p; stored = q } ≡ with_entry_value o w) (sym same)
      (λ p q. λ i. record {
        map = record o.map { now = with_value o.map.now (g.key o.prefix) w };
        prefix = o.prefix;
        fits = le_prop p o.fits i;
        stored = Bool-set _ _ q (contains_stored o.map.now.entries (g.key o.prefix) w) i;
      })

  pub occupied_is_written : (w : T) → IsWritten (Occupied o) w (Occupied (with_entry_value o w))
  occupied_is_written w = (
    refl,
    refl,
    get_stored o.map.now.entries (g.key o.prefix) w,
    refl,
    λ x. λ i. record { entries = insert_twice o.map.now.entries (g.key o.prefix) w x i; kept = o.map.now.kept },
  )
