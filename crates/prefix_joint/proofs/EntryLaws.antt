-- Joint entries whose value is written.
use Rattle.std.proofs.Common.{◌≡◌, true, Some, refl, sym, ap, ◌∙◌, subst, is_some}
use Rattle.std.proofs.Math.Bool.{Bool-set}
use Rattle.either.specs.Either.{map_either}
use Rattle.either.specs.declared.Either.TheVariants.{Left, Right}
use Rattle.prefix_model.specs.Positions.{with_positions}
use Rattle.prefix_table.specs.declared.prefixes.PrefixKey.{Ghosts}
use Rattle.prefix_model.proofs.StoredValues.{get_stored, insert_twice}
use Rattle.prefix_joint_walks.specs.declared.JointPrefixKey as joint
use Rattle.prefix_joint_walks.specs.Joint.{JointView, JointKey, Fits, value_at, with_value_at, with_entry_at}
use Rattle.prefix_joint.specs.Fitting.{fits_once}
use Rattle.prefix_joint.specs.JointEntries.{Occupied, with_entry_value, stored_at, IsWritten}
use Rattle.prefix_joint.specs.declared.map.entry.OccupiedEntry.{OccupiedEntry}

module _ {T : Type 0} where
  pub value_stored : (m : JointView T) (k : JointKey) (v : T) → value_at (with_value_at m k v) k ≡ Some v
  value_stored m (Left k) v = get_stored m.t1.entries k v
  value_stored m (Right k) v = get_stored m.t2.entries k v

  pub entry_stored : (m : JointView T) (k : JointKey) (v : T) → value_at (with_entry_at m k v) k ≡ Some v
  entry_stored m (Left k) v = get_stored m.t1.entries k v
  entry_stored m (Right k) v = get_stored m.t2.entries k v

  pub value_twice : (m : JointView T) (k : JointKey) (v x : T) → with_value_at (with_value_at m k v) k x ≡ with_value_at m k x
  value_twice m (Left k) v x = λ i. record m { t1 = record m.t1 { entries = insert_twice m.t1.entries k v x i } }
  value_twice m (Right k) v x = λ i. record m { t2 = record m.t2 { entries = insert_twice m.t2.entries k v x i } }

  again : (m : JointView T) (k : JointKey) (v x : T) → with_value_at (with_entry_at m k v) k x ≡ with_entry_at m k x
  again m (Left k) v x = λ i. record m { t1 = record { entries = insert_twice m.t1.entries k v x i; kept = with_positions m.t1.kept k } }
  again m (Right k) v x = λ i. record m { t2 = record { entries = insert_twice m.t2.entries k v x i; kept = with_positions m.t2.kept k } }

  pub entry_twice : (m n : JointView T) (k : JointKey) (v x : T) → n ≡ with_entry_at m k v → with_value_at n k x ≡ with_entry_at m k x
  entry_twice m n k v x e = ap (λ n. with_value_at n k x) e ∙ again m k v x

module _ {P T A B : Type 0} {h : joint.Ghosts P A B} {g1 : Ghosts A} {g2 : Ghosts B} (o : OccupiedEntry P T A B h g1 g2) where
  pub occupied_written : (k : JointKey) → k ≡ map_either g1.key g2.key (h.prefix o.prefix) → (w : T) (p : Fits g1.WIDTH g1 g2.WIDTH g2 (h.prefix o.prefix))
      (q : is_some (value_at (with_value_at o.map.now k w) (map_either g1.key g2.key (h.prefix o.prefix))) ≡ true)
      → record { map = record o.map { now = with_value_at o.map.now k w }; prefix = o.prefix; fits = p; stored = q } ≡ with_entry_value o w
  occupied_written k same w =
      subst (λ (k : JointKey). (p : Fits g1.WIDTH g1 g2.WIDTH g2 (h.prefix o.prefix)) (q : is_some (value_at (with_value_at o.map.now k w) (map_either g1.key g2.key (h.prefix o.prefix))) ≡ true)
      → record { map = record o.map { now = with_value_at o.map.now k w }; prefix = o.prefix; fits = p; stored = q } ≡ with_entry_value o w) (sym same)
      (λ p q. λ i. record {
        map = record o.map { now = with_value_at o.map.now (map_either g1.key g2.key (h.prefix o.prefix)) w };
        prefix = o.prefix;
        fits = fits_once g1 g2 (h.prefix o.prefix) p o.fits i;
        stored = Bool-set _ _ q (stored_at o.map.now (map_either g1.key g2.key (h.prefix o.prefix)) w) i;
      })

  pub occupied_is_written : (w : T) → IsWritten (Occupied o) w (Occupied (with_entry_value o w))
  occupied_is_written w = (
    refl,
    refl,
    value_stored o.map.now (map_either g1.key g2.key (h.prefix o.prefix)) w,
    refl,
    λ x. value_twice o.map.now (map_either g1.key g2.key (h.prefix o.prefix)) w x,
  )
