-- Stored keys that a key begins with.
--     IsFront bits w key to found      a found entry stands at a front of the key of at most `to` bits, and zeros follow it
use Rattle.std.specs.Prelude.{◌≡◌, ℕ, ◌-◌, ◌≤◌, false, take, drop, replicate}
use Rattle.prefix_model.specs.Keys.{KeyBits}
use Rattle.prefix_map.specs.declared.search.Found.{Found}

pub record IsFront {R T : Type 0} (bits : R → KeyBits) (w : ℕ) (key : KeyBits) (to : ℕ) (found : Found R T) : Type 0 where
  pub fits : found.len ≤ to
  pub front : take found.len (bits found.key) ≡ take found.len key
  pub zeros : drop found.len (bits found.key) ≡ replicate (w - found.len) false
