-- What storing all values of a node at once does.
--     node_entries p bits values      the entries of the node at p, whose places have these bits
use Rattle.std.specs.Prelude.{◌≡◌, ℕ, ◌*◌, ◌/◌, cond, List, ◌++◌, length, map, take, drop}
use Rattle.std.specs.List.{zip}
use Rattle.prefix_model.specs.Keys.{KeyBits, same_key}
use Rattle.prefix_model.specs.Positions.{data_places, bits_of, with_positions}
use Rattle.prefix_model.specs.Building.{insert_all}
use Rattle.prefix_model.specs.FirstCause.{marked}
use Rattle.prefix_model.specs.Slots.{picked}
use Rattle.prefix_model.specs.TableViews.{IsSameTable}
use Rattle.prefix_table.specs.Tries.{bit_of, held, is_kept, table_view, IsTrie}
use Rattle.prefix_table.specs.Writes.{KeepsWay}
use Rattle.prefix_table.specs.declared.trie.Trie.{Trie}

abbrev pub node_entries : {T : Type 0} → KeyBits → ℕ → List T → List (KeyBits × T)
node_entries p bits values = zip (map (λ s. p ++ s) (marked data_places (bits_of 31 bits))) values

module _ {T : Type 0} where
  -- The node at p holds these values at the places of these bits, and else the trie is as it was.
  pub record IsFilled (old new : Trie T) (p : KeyBits) (bits : ℕ) (values : List T) : Type 0 where
    pub trie : IsTrie new
    pub kept : (q : KeyBits) → is_kept new q ≡ is_kept old q
    pub held : (k : KeyBits) → held new k ≡ cond (same_key (take (length k / 5 * 5) k) p) (picked bits values (bit_of (drop (length k / 5 * 5) k))) (held old k)
    pub numbers : KeepsWay old new p

  -- what storing the values of a node does to what a contract sees
  pub record IsNodeEntered (old new : Trie T) (p : KeyBits) (bits : ℕ) (values : List T) : Type 0 where
    pub trie : IsTrie new
    pub entries : (table_view new).entries ≡ insert_all (table_view old).entries (node_entries p bits values)
    pub kept : (table_view new).kept ≡ with_positions (table_view old).kept p
    pub numbers : KeepsWay old new p

  -- what a refusal does: a contract sees the same
  pub record IsNodeRefused (old new : Trie T) (p : KeyBits) : Type 0 where
    pub trie : IsTrie new
    pub unchanged : IsSameTable (table_view old) (table_view new)
    pub numbers : KeepsWay old new p
