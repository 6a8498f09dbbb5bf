-- A table that nothing stands behind.
use Rattle.std.proofs.Common.{ℕ, ◌≤◌, List, length, take}
use Rattle.std.proofs.lemmas.List.{take_all}
use Rattle.prefix_model.specs.Spelling.{Codec}
use Rattle.prefix_archive.specs.Causes.{IsTable}

module _ {V : Type 0} (codec : Codec V) where
  -- a front that leaves nothing behind it is all
  pub all_is_table : (w n : ℕ) (bytes : List ℕ) → length bytes ≤ n → IsTable codec w (take n bytes) → IsTable codec w bytes
  all_is_table w n bytes h t = rw (take_all n bytes h) at t
