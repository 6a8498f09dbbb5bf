-- What is appended to a text.
--     Stays old new      what was there is there still, and stands in front
use Rattle.std.specs.Prelude.{◌≡◌, ℕ, List, ◌++◌}

pub record Stays (old new : List ℕ) : Type 0 where
  pub behind : List ℕ
  pub same : new ≡ old ++ behind
