-- A least table is full only where the table has many entries.
use Rattle.std.proofs.Common.{◌⊎◌, inl, inr, ℕ, ◌+◌, ◌*◌, ◌/◌, ◌^◌, ◌≤◌, arith}
use native.Mathlib.Nat.{mul-le-mul_right}
use Rattle.std.specs.FinMap as map
use Rattle.std.specs.declared.cmp.Ordering.{Ordering}
use Rattle.std.specs.Cmp.{IsTotalOrder}
use Rattle.std.specs.FinMap.{IsAntisymmetric}
use Rattle.prefix_model.specs.Tables.{KeyMap}
use Rattle.prefix_model.specs.LeastTable.{least_table}
use Rattle.prefix_model.specs.Spelling.{Codec}
use Rattle.prefix_model.proofs.Fewest.Tables.{keeps_width, is_no_larger}
use Rattle.prefix_joint_archive.specs.Compacting.{IsFull, FullNeedsEntries}
use Rattle.prefix_joint_archive.proofs.Room.{counts_positions}

module _ {V : Type 0} {cmp : V → V → Ordering} (o : IsTotalOrder cmp) (exact : IsAntisymmetric cmp) where
  many_entries : (w : ℕ) (m : KeyMap V) → IsFull (least_table cmp w m) → 2 ^ 32 ≤ 1 + map.len m * (w / 5)
  many_entries w m full =
      let few = counts_positions V w (least_table cmp w m) (keeps_width o exact w m) in
      let less = mul-le-mul_right {m = map.len (least_table cmp w m)} {n = map.len m} (w / 5) (is_no_larger o exact w m) in omega arith

pub full_needs_entries : {V : Type 0} (codec : Codec V) {cmp : V → V → Ordering} → IsTotalOrder cmp → IsAntisymmetric cmp → FullNeedsEntries codec cmp
full_needs_entries codec {cmp} o exact v w bytes l = go l.full
  where
    go : IsFull (least_table cmp v l.first) ⊎ IsFull (least_table cmp w l.second) → (2 ^ 32 ≤ 1 + map.len l.first * (v / 5)) ⊎ (2 ^ 32 ≤ 1 + map.len l.second * (w / 5))
    go (inl full) = inl (many_entries o exact v l.first full)
    go (inr full) = inr (many_entries o exact w l.second full)
