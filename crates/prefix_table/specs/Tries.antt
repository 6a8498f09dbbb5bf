-- How a table stands in a root and two stores of small lists, and what it then holds.
--     child t n c, value_of t n b      the child of a node at a slot;  its value at a place
--     node_at t p, number_at t p      the node of a position, and its number
--     numbered t a      the node of a number
--     held t k, is_kept t p      the value at a key;  whether a position is kept
--     table_view t      what a contract sees
--     IsTrie t      what holds of the parts of a table
use Rattle.std.specs.Prelude.{◌≡◌, ◌≢◌, ℕ, zero, suc, ◌+◌, ◌-◌, ◌*◌, ◌/◌, ◌%◌, ◌^◌, ◌<◌, ◌≤◌, ◌==◌, Bool, cond, List, [], ◌∷◌, ◌++◌, length, take, drop, count_ones, Option, Some, None, is_some, slice_get}
use Rattle.std.specs.Option.{option_map, option_and_then, option_to_list}
use Rattle.std.specs.FinMap as map
use Rattle.prefix_model.specs.Keys.{KeyBits, keys_of_length, number}
use Rattle.prefix_table.specs.NodeLists.{block, items_of}
use Rattle.prefix_model.specs.Slots.{picked, place}
use Rattle.prefix_model.specs.TableViews.{TableView}
use Rattle.prefix_table.specs.declared.trie.Node.{Node}
use Rattle.prefix_table.specs.declared.trie.Trie.{Trie}

-- the number of the node at a slot below this one
abbrev pub child_number : Node → ℕ → ℕ
child_number n c = n.children * 32 + place n.child_bits c + 1

-- the bit of a key within its node
abbrev pub bit_of : KeyBits → ℕ
bit_of s = 2 ^ length s - 1 + number s

-- the keys of at most n bits
unfoldable pub keys_up_to : ℕ → List KeyBits
keys_up_to zero = [] ∷ []
keys_up_to (suc n) = keys_up_to n ++ keys_of_length (suc n)

-- all keys that a table can hold
unfoldable pub all_keys : List KeyBits
all_keys = keys_up_to 130

-- what f tells at these keys
abbrev pub told : {X : Type 0} → (KeyBits → Option X) → List KeyBits → List (KeyBits × X)
told f [] = []
told f (k ∷ ks) = option_to_list (option_map (λ v. (k, v)) (f k)) ++ told f ks

-- these keys by the numbers that f gives them
abbrev pub by_number : (KeyBits → Option ℕ) → List KeyBits → List (ℕ × KeyBits)
by_number f [] = []
by_number f (k ∷ ks) = option_to_list (option_map (λ a. (a, k)) (f k)) ++ by_number f ks

module _ {T : Type 0} where
  abbrev pub child : Trie T → Node → ℕ → Option Node
  child t n c = picked n.child_bits (items_of t.nodes.lists n.child_bits n.children) c

  abbrev pub value_of : Trie T → Node → ℕ → Option T
  value_of t n b = picked n.data_bits (items_of t.values.lists n.data_bits n.values) b

  -- the node that these bits lead to from n
  unfoldable pub node_below : Trie T → Node → KeyBits → Option Node
  node_below t n [] = Some n
  node_below t n (a ∷ b ∷ c ∷ d ∷ e ∷ p) = option_and_then (λ m. node_below t m p) (child t n (number (a ∷ b ∷ c ∷ d ∷ e ∷ [])))
  node_below t n p = None

  -- and its number, where that of n is x
  unfoldable pub number_below : Trie T → Node → ℕ → KeyBits → Option ℕ
  number_below t n x [] = Some x
  number_below t n x (a ∷ b ∷ c ∷ d ∷ e ∷ p) =
      option_and_then (λ m. number_below t m (child_number n (number (a ∷ b ∷ c ∷ d ∷ e ∷ []))) p) (child t n (number (a ∷ b ∷ c ∷ d ∷ e ∷ [])))
  number_below t n x p = None

  abbrev pub node_at : Trie T → KeyBits → Option Node
  node_at t p = node_below t t.root p

  abbrev pub number_at : Trie T → KeyBits → Option ℕ
  number_at t p = number_below t t.root 0 p

  abbrev pub numbered : Trie T → ℕ → Option Node
  numbered t a = cond (a == 0) (Some t.root) (slice_get (block t.nodes.lists ((a - 1) / 32)) ((a - 1) % 32))

  abbrev pub is_kept : Trie T → KeyBits → Bool
  is_kept t p = is_some (node_at t p)

  -- the value at a key: that of the node of its last position
  abbrev pub held : Trie T → KeyBits → Option T
  held t k = option_and_then (λ n. value_of t n (bit_of (drop (length k / 5 * 5) k))) (node_at t (take (length k / 5 * 5) k))

  unfoldable pub table_view : Trie T → TableView T
  table_view t = record {
    entries = map.from_entries (told (held t) all_keys);
    kept = map.from_entries (told (λ p. option_map (λ _. tt) (node_at t p)) all_keys);
    places = map.from_entries (by_number (number_at t) all_keys);
  }

  pub record IsNode (t : Trie T) (p : KeyBits) (n : Node) : Type 0 where
    pub depth_within : length p ≤ 125
    pub data_within : n.data_bits < 2 ^ 31
    pub child_within : n.child_bits < 2 ^ 32
    pub values_within : n.values < 2 ^ 32
    pub children_within : n.children < 2 ^ 32
    pub values : length (items_of t.values.lists n.data_bits n.values) ≡ count_ones n.data_bits
    pub children : length (items_of t.nodes.lists n.child_bits n.children) ≡ count_ones n.child_bits

  pub record IsTrie (t : Trie T) : Type 0 where
    pub each : (p : KeyBits) (n : Node) → node_at t p ≡ Some n → IsNode t p n
    -- no block belongs to two nodes
    pub own_children : (p q : KeyBits) (n m : Node) → node_at t p ≡ Some n → node_at t q ≡ Some m → n.child_bits ≢ 0 → m.child_bits ≢ 0 → n.children ≡ m.children → p ≡ q
    pub own_values : (p q : KeyBits) (n m : Node) → node_at t p ≡ Some n → node_at t q ≡ Some m → n.data_bits ≢ 0 → m.data_bits ≢ 0 → n.values ≡ m.values → p ≡ q

  -- the node of this number is the deepest on the way to the key of the first `len` bits
  pub record IsWayEnd (t : Trie T) (bits : KeyBits) (len at depth : ℕ) : Type 0 where
    pub from : depth ≤ len
    pub at_five : depth % 5 ≡ 0
    pub here : number_at t (take depth bits) ≡ Some at
    pub ends : depth + 5 ≤ len → node_at t (take (depth + 5) bits) ≡ None
