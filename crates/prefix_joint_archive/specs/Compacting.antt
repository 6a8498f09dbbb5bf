-- What compacting an archive of two families promises. The first has addresses of v bits and the second of w.
--     SpellsLeast codec cmp v w bytes output      the bytes spell two tables, and the output is the spelling of their least tables
--     IsCompacted codec v w bytes output      the output spells two tables with the fewest entries that have the answers of those that the bytes spell
--     HasRoom m, IsFull m      whether an archive can count the positions of a table
--     LacksRoom codec cmp v w bytes      the bytes spell two tables, and the least table of one of them is full
--     EndsWith, Compacts      what an error tells;  and a result
--     CountsPositions V      how many positions a table has at most
--     FullNeedsEntries codec cmp      a least table is full only where the table has many entries
--     IsCanonical codec cmp      equal answers, equal bytes
use Rattle.std.specs.Prelude.{◌≡◌, ◌⊎◌, ◌↔◌, ℕ, ◌+◌, ◌*◌, ◌/◌, ◌^◌, ◌<◌, ◌≤◌, List, ◌++◌, length, Result, Ok, Err, MatchResult}
use Rattle.std.specs.declared.cmp.Ordering.{Ordering}
use Rattle.std.specs.declared.alloc.Global.{Global}
use Rattle.std.specs.declared.vec.Vec.{Vec}
use Rattle.prefix_model.specs.declared.Cause.{Cause}
use Rattle.prefix_model.specs.Tables.{KeyMap, HasWidth, SameAnswers, IsFewest}
use Rattle.std.specs.FinMap.{len}
use Rattle.prefix_model.specs.LeastTable.{least_table}
use Rattle.prefix_model.specs.Positions.{positions_in}
use Rattle.prefix_model.specs.Spelling.{Codec, SpellsPair, spelling}
use Rattle.prefix_model.specs.FirstCause.{check_pair}
use Rattle.prefix_layout.specs.Errors.{error_of}
use Rattle.prefix_layout.specs.declared.error.ArchiveError.{ArchiveError}
use Rattle.prefix_layout.specs.declared.error.ArchiveError.TheVariants.{NodeIndexOverflow, OutOfMemory}

abbrev pub HasRoom : {V : Type 0} → KeyMap V → Type 0
HasRoom m = length (positions_in m) < 2 ^ 32

abbrev pub IsFull : {V : Type 0} → KeyMap V → Type 0
IsFull m = 2 ^ 32 ≤ length (positions_in m)

-- Every address has the answer that it had, or none where it had none, and no table with the same answers has fewer entries, in either family.
pub record IsCompacted {V : Type 0} (codec : Codec V) (v w : ℕ) (bytes output : List ℕ) : Type 0 where
  pub first : KeyMap V
  pub second : KeyMap V
  pub new_first : KeyMap V
  pub new_second : KeyMap V
  pub input_spelled : SpellsPair codec v w bytes first second
  pub output_spelled : SpellsPair codec v w output new_first new_second
  pub first_same : SameAnswers v first new_first
  pub second_same : SameAnswers w second new_second
  pub first_fewest : IsFewest v new_first
  pub second_fewest : IsFewest w new_second

module _ {V : Type 0} (codec : Codec V) (cmp : V → V → Ordering) where
  pub record SpellsLeast (v w : ℕ) (bytes output : List ℕ) : Type 0 where
    pub first : KeyMap V
    pub second : KeyMap V
    pub input_spelled : SpellsPair codec v w bytes first second
    pub first_room : HasRoom (least_table cmp v first)
    pub second_room : HasRoom (least_table cmp w second)
    pub output_is : output ≡ spelling codec (least_table cmp v first) ++ spelling codec (least_table cmp w second)

  pub record LacksRoom (v w : ℕ) (bytes : List ℕ) : Type 0 where
    pub first : KeyMap V
    pub second : KeyMap V
    pub input_spelled : SpellsPair codec v w bytes first second
    pub full : IsFull (least_table cmp v first) ⊎ IsFull (least_table cmp w second)

  -- a cause, or no room for positions, or want of memory where there is no cause
  abbrev pub EndsWith : ℕ → ℕ → List ℕ → ArchiveError → Type 0
  EndsWith v w bytes e =
      ((cause : Cause) × (e ≡ error_of cause) × (check_pair codec v w bytes ≡ Err cause))
      ⊎ (((e ≡ NodeIndexOverflow) × LacksRoom v w bytes) ⊎ ((e ≡ OutOfMemory) × (check_pair codec v w bytes ≡ Ok tt)))

  abbrev pub Compacts : ℕ → ℕ → List ℕ → Result (Vec ℕ Global) ArchiveError → Type 0
  Compacts v w bytes result = MatchResult result (λ output. SpellsLeast v w bytes output.items) (EndsWith v w bytes)

  -- compacting gives equal bytes just where every address has equal answers, or none, in either family
  abbrev pub IsCanonical : Type 0
  IsCanonical = (v w : ℕ) (a b new_a new_b : List ℕ) (s : SpellsLeast v w a new_a) (t : SpellsLeast v w b new_b) → (new_a ≡ new_b) ↔ (SameAnswers v s.first t.first × SameAnswers w s.second t.second)

-- a table has at most one position, and for each entry as many more as a key of w bits has fives
abbrev pub CountsPositions : Type 0 → Type 0
CountsPositions V = (w : ℕ) (m : KeyMap V) → HasWidth w m → length (positions_in m) ≤ 1 + len m * (w / 5)

-- a least table is full only where the table has many entries
abbrev pub FullNeedsEntries : {V : Type 0} → Codec V → (V → V → Ordering) → Type 0
FullNeedsEntries codec cmp = (v w : ℕ) (bytes : List ℕ) (l : LacksRoom codec cmp v w bytes) → (2 ^ 32 ≤ 1 + len l.first * (v / 5)) ⊎ (2 ^ 32 ≤ 1 + len l.second * (w / 5))
