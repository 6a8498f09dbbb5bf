-- How codecs order bytes.
use Rattle.std.specs.Prelude.{◌≡◌, ℕ, true, List, length}
use Rattle.std.specs.declared.cmp.Ordering.{Ordering}
use Rattle.std.specs.declared.cmp.Ordering.TheVariants.{Equal}
use Rattle.std.specs.Cmp.{IsTotalOrder}
use Rattle.prefix_model.specs.Spelling.{Codec, IsBytes, HasSpelling}

module _ {V : Type 0} (codec : Codec V) (cmp : V → V → Ordering) where
  -- the order of the values that are read
  abbrev pub byte_order : List ℕ → List ℕ → Ordering
  byte_order a b = cmp (codec.read a) (codec.read b)

  -- values that have a spelling are equal only where they are one
  abbrev pub TellsApart : Type 0
  TellsApart = (a b : V) → HasSpelling codec a → HasSpelling codec b → cmp a b ≡ Equal → a ≡ b

  -- bytes that spell a value
  pub record IsAccepted (bytes : List ℕ) : Type 0 where
    pub fits : IsBytes bytes
    pub len : length bytes ≡ codec.size
    pub accepted : codec.accepted bytes ≡ true

  -- a total order, equal only for the same bytes, which on spellings is the order of the values
  pub record OrdersBytes : Type 0 where
    pub total : IsTotalOrder byte_order
    pub exact : (a b : List ℕ) → IsAccepted a → IsAccepted b → byte_order a b ≡ Equal → a ≡ b
    pub values : (a b : V) → HasSpelling codec a → HasSpelling codec b → byte_order (codec.spell a) (codec.spell b) ≡ cmp a b
