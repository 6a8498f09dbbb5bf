-- What the first walk finds at the places of a node.
--     AreParts cmp vs parts      each part is one of candidates
--     IsSource w view p source      the node at p as it is read
--     key_candidates cmp w view q a      the candidates of the key q, where a is inherited there
--     AreListed cmp w view p inner vs lists b a      the places at and below b whose place above is inner, and b itself, have their candidates, where a is inherited at b
--     AreElsewhere before after b      the parts of the places that are not at or below b are the same
--     IsCollected cmp w view p inner b a old new before after part      what is known once the place b is collected, and its part told
use Rattle.std.specs.Prelude.{◌≡◌, ◌⊎◌, ℕ, ◌+◌, ◌-◌, ◌/◌, ◌<◌, ◌≤◌, List, ◌++◌, length, Option}
use Rattle.std.specs.FinMap as map
use Rattle.std.specs.Int.{bit_at}
use Rattle.std.specs.Borrow.{Bor}
use Rattle.std.specs.declared.cmp.Ordering.{Ordering}
use Rattle.prefix_model.specs.Keys.{KeyBits}
use Rattle.prefix_model.specs.Positions.{data_bits, child_bits}
use Rattle.prefix_model.specs.Candidates.{Candidates, candidates}
use Rattle.prefix_model.specs.TableViews.{TableView}
use Rattle.prefix_model.specs.Places.{answers_from}
use Rattle.prefix_aggregate.specs.Inner.{AreInner}
use Rattle.prefix_aggregate.specs.Parts.{told, IsPart, KeepsParts}
use Rattle.prefix_aggregate.specs.Nodes.{part_at, list_at}
use Rattle.prefix_aggregate.specs.Reading.{place_key}
use Rattle.prefix_aggregate.specs.declared.parts.Part.{Part}
use Rattle.prefix_aggregate.specs.declared.collecting.Source.{Source}

abbrev pub AreElsewhere : List Part → List Part → ℕ → Type 0
AreElsewhere before after b = (c : ℕ) → c < 31 → ((r : KeyBits) → place_key c ≡ place_key b ++ r → ⊥) → part_at after c ≡ part_at before c

module _ {T : Type 0} (w : ℕ) (view : TableView T) where
  pub record IsSource (p : KeyBits) (source : Source) : Type 0 where
    pub depth : source.depth ≡ length p
    pub within : length p ≤ w
    pub values : source.bits.data_bits ≡ data_bits (map.get view.entries) p
    pub children : length p + 5 ≤ w → source.bits.child_bits ≡ child_bits (map.contains_key view.kept) p
    pub no_children : w < length p + 5 → source.bits.child_bits ≡ 0
    pub inner : AreInner source.bits.data_bits source.bits.child_bits source.inner 0

module _ {T : Type 0} (cmp : T → T → Ordering) where
  abbrev pub AreParts : List (Bor T) → List Part → Type 0
  AreParts vs parts = (b : ℕ) → b < 31 → IsPart cmp vs (part_at parts b)

  module _ (w : ℕ) (view : TableView T) where
    abbrev pub key_candidates : KeyBits → Option T → Candidates T
    key_candidates q a = candidates cmp (w - length q) (answers_from view q a)

    abbrev pub AreListed : KeyBits → ℕ → List (Bor T) → List Part → ℕ → Option T → Type 0
    AreListed p inner vs lists b a = (c : ℕ) (r : KeyBits) → c < 31 → place_key c ≡ place_key b ++ r → (c ≡ b) ⊎ (bit_at inner ((c - 1) / 2) ≡ 1)
        → list_at vs lists c ≡ candidates cmp (w - length (p ++ place_key c)) (λ k. answers_from view (p ++ place_key b) a (r ++ k))

    pub record IsCollected (p : KeyBits) (inner b : ℕ) (a : Option T) (old new : List (Bor T)) (before after : List Part) (part : Part) : Type 0 where
      pub kept : KeepsParts old new
      pub long : length after ≡ 31
      pub good : IsPart cmp new part
      pub candidates : told new part ≡ key_candidates (p ++ place_key b) a
      pub parts : AreParts new after
      pub listed : AreListed p inner new after b a
      pub elsewhere : AreElsewhere before after b
