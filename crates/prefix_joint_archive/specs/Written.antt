-- What is written of two tables.
--     IsWritable codec w m      a table that an archive can count, and whose values have a spelling
--     ReadsWrittenPair codec      the spelling of two such tables is accepted, and what is read from it is the tables
use Rattle.std.specs.Prelude.{◌≡◌, ℕ, ◌^◌, ◌<◌, ◌++◌, length, Ok, IfSome}
use Rattle.std.specs.FinMap.{get, entries}
use Rattle.prefix_model.specs.Keys.{KeyBits}
use Rattle.prefix_model.specs.Tables.{KeyMap, HasWidth}
use Rattle.prefix_model.specs.Positions.{positions_in}
use Rattle.prefix_model.specs.Spelling.{Codec, HasSpelling, SpellsPair, spelling}
use Rattle.prefix_model.specs.FirstCause.{check_pair}

module _ {V : Type 0} (codec : Codec V) where
  pub record IsWritable (w : ℕ) (m : KeyMap V) : Type 0 where
    pub width : HasWidth w m
    pub positions_fit : length (positions_in m) < 2 ^ 32
    pub entries_fit : length (entries m) < 2 ^ 32
    pub values : (k : KeyBits) → IfSome (get m k) (HasSpelling codec)

  abbrev pub ReadsWrittenPair : Type 0
  ReadsWrittenPair =
      (v w : ℕ) (first second : KeyMap V) → IsWritable v first → IsWritable w second
      → (check_pair codec v w (spelling codec first ++ spelling codec second) ≡ Ok tt)
      × ((m n : KeyMap V) → SpellsPair codec v w (spelling codec first ++ spelling codec second) m n → (m ≡ first) × (n ≡ second))
