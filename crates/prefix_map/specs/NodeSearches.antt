-- Searches for the first entry of a table, node by node.
--     IsWhole width found      a found entry has zeros behind its key
use Rattle.std.specs.Prelude.{◌≡◌, ℕ, ◌-◌, ◌≤◌, false, drop, replicate}
use Rattle.prefix_model.specs.Keys.{KeyBits}
use Rattle.prefix_map.specs.declared.search.Found.{Found}

pub record IsWhole {R T : Type 0} (bits : R → KeyBits) (width : ℕ) (found : Found R T) : Type 0 where
  pub fits : found.len ≤ width
  pub zeros : drop found.len (bits found.key) ≡ replicate (width - found.len) false
