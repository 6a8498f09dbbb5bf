-- The nodes on the way to a key, by their numbers.
use Rattle.std.specs.Prelude.{◌≡◌, ℕ, ◌*◌, ◌%◌, ◌≤◌, List, length, take, Some, get_or}
use Rattle.prefix_model.specs.Keys.{KeyBits}
use Rattle.prefix_table.specs.Tries.{number_at}
use Rattle.prefix_table.specs.declared.trie.Trie.{Trie}

-- item i is the number of the node 5 * i bits down on the way to a key, down to this depth
pub record IsWay {T : Type 0} (t : Trie T) (bits : KeyBits) (numbers : List ℕ) (depth : ℕ) : Type 0 where
  pub at_five : depth % 5 ≡ 0
  pub within : depth ≤ length bits
  pub few : depth ≤ 125
  pub size : length numbers ≡ 26
  pub named : (i : ℕ) → 5 * i ≤ depth → number_at t (take (5 * i) bits) ≡ Some (get_or numbers i 0)
