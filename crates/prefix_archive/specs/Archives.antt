-- Laws of archives: tables and their bytes tell each other.
--     TellsBytes codec      bytes that spell tables are equal just where the tables are, and each is the spelling of its table
--     TellsBytesOfPair codec      the same of two tables, one after the other
--     SpellsOneTable codec, HasOneSpelling codec      bytes spell at most one table;  a table has one spelling
--     IsPrefixFree codec      no spelling goes on behind another
--     ReadsWritten codec      the spelling of a table within the limits is accepted, and what is read from it is the table
--     HasCauseUnlessSpelled codec      there is no cause exactly where bytes spell a table
use Rattle.std.specs.Prelude.{◌≡◌, ◌↔◌, ℕ, ◌^◌, ◌<◌, List, [], ◌++◌, length, Ok, IfSome}
use Rattle.std.specs.FinMap.{get, entries}
use Rattle.prefix_model.specs.Keys.{KeyBits}
use Rattle.prefix_model.specs.Tables.{KeyMap, HasWidth}
use Rattle.prefix_model.specs.Positions.{positions_in}
use Rattle.prefix_model.specs.Spelling.{Codec, IsBytes, HasSpelling, Spells, SpellsPair, spelling}
use Rattle.prefix_model.specs.FirstCause.{check_alone}

module _ {V : Type 0} (codec : Codec V) where
  abbrev pub TellsBytes : Type 0
  TellsBytes = (w : ℕ) (a b : List ℕ) (m n : KeyMap V) → Spells codec w a m → Spells codec w b n → ((a ≡ b) ↔ (m ≡ n)) × (a ≡ spelling codec m)

  abbrev pub TellsBytesOfPair : Type 0
  TellsBytesOfPair = (v w : ℕ) (a b : List ℕ) (m1 m2 n1 n2 : KeyMap V) → SpellsPair codec v w a m1 m2 → SpellsPair codec v w b n1 n2 → ((a ≡ b) ↔ ((m1 ≡ n1) × (m2 ≡ n2))) × (a ≡ spelling codec m1 ++ spelling codec m2)

  abbrev pub SpellsOneTable : Type 0
  SpellsOneTable = (w : ℕ) (bytes : List ℕ) (m n : KeyMap V) → Spells codec w bytes m → Spells codec w bytes n → m ≡ n

  abbrev pub HasOneSpelling : Type 0
  HasOneSpelling = (w : ℕ) (a b : List ℕ) (m : KeyMap V) → Spells codec w a m → Spells codec w b m → a ≡ b

  abbrev pub IsPrefixFree : Type 0
  IsPrefixFree = (w : ℕ) (a rest : List ℕ) (m n : KeyMap V) → Spells codec w a m → Spells codec w (a ++ rest) n → rest ≡ []

  abbrev pub HasCauseUnlessSpelled : Type 0
  HasCauseUnlessSpelled = (w : ℕ) (bytes : List ℕ) → IsBytes bytes → (check_alone codec w bytes ≡ Ok tt) ↔ ((m : KeyMap V) × Spells codec w bytes m)

  abbrev pub ReadsWritten : Type 0
  ReadsWritten =
      (w : ℕ) (m : KeyMap V) → HasWidth w m → length (positions_in m) < 2 ^ 32 → length (entries m) < 2 ^ 32 → ((k : KeyBits) → IfSome (get m k) (HasSpelling codec))
      → (check_alone codec w (spelling codec m) ≡ Ok tt) × ((n : KeyMap V) → Spells codec w (spelling codec m) n → n ≡ m)
