-- What changing one node does.
use Rattle.std.specs.Prelude.{◌≡◌, ◌≢◌, ℕ, ◌+◌, ◌-◌, ◌/◌, ◌%◌, ◌≤◌, ◌<◌, ◌==◌, ◌||◌, ◌&&◌, not, false, cond, [], ◌++◌, length, take, Option, Some, None, IsSome, slice_get, Result, IfOk, IfErr, OnOk, OnErr}
use Rattle.std.specs.FinMap as map
use Rattle.prefix_model.specs.Keys.{KeyBits, low_bits, same_key}
use Rattle.prefix_model.specs.Positions.{with_positions}
use Rattle.prefix_blocks.specs.Blocks.{with_item}
use Rattle.prefix_table.specs.NodeLists.{block, items_of}
use Rattle.prefix_model.specs.Pruning.{prune, prune_steps, pruned}
use Rattle.prefix_model.specs.TableViews.{IsSameTable}
use Rattle.prefix_table.specs.Tries.{child, node_at, number_at, numbered, held, is_kept, table_view, IsNode, IsTrie, IsWayEnd}
use Rattle.prefix_table.specs.declared.trie.Node.{Node}
use Rattle.prefix_table.specs.declared.trie.Trie.{Trie}

module _ {T : Type 0} where
  -- the trie with this node in the place of a number
  abbrev pub with_node : Trie T → ℕ → Node → Trie T
  with_node t a n = cond (a == 0) (record t { root = n }) (record t { nodes = with_item t.nodes ((a - 1) / 32) ((a - 1) % 32) n })

  -- P holds of the node of this number
  abbrev pub AtNode : Trie T → ℕ → (Node → Type 0) → Type 0
  AtNode t a P = (n : Node) → numbered t a ≡ Some n → P n

  -- some position has this number
  abbrev pub IsPosition : Trie T → ℕ → Type 0
  IsPosition t a = (p : KeyBits) × (number_at t p ≡ Some a)

  -- The node m at q is still there, where n' now stands at p.
  pub record IsKept (t t' : Trie T) (p : KeyBits) (n' : Node) (q : KeyBits) (m : Node) : Type 0 where
    pub children : (c : ℕ) → c < 32 → child t' m c ≡ cond (same_key (q ++ low_bits 5 c) p) (Some n') (child t m c)
    pub child_count : length (items_of t'.nodes.lists m.child_bits m.children) ≡ length (items_of t.nodes.lists m.child_bits m.children)
    pub values : items_of t'.values.lists m.data_bits m.values ≡ items_of t.values.lists m.data_bits m.values
    pub own_children : m.child_bits ≢ 0 → n'.child_bits ≢ 0 → m.children ≢ n'.children
    pub own_values : m.data_bits ≢ 0 → n'.data_bits ≢ 0 → m.values ≢ n'.values

  -- The node n' now stands at p, and the other nodes are still there.
  pub record IsChanged (t t' : Trie T) (p : KeyBits) (n' : Node) : Type 0 where
    pub root : t'.root ≡ cond (same_key [] p) n' t.root
    pub node : IsNode t' p n'
    pub others : (q : KeyBits) (m : Node) → node_at t q ≡ Some m → q ≢ p → IsKept t t' p n' q m

  -- the nodes on the way to a key keep their numbers
  abbrev pub KeepsWay : Trie T → Trie T → KeyBits → Type 0
  KeepsWay old new key = (q r : KeyBits) (a : ℕ) → key ≡ q ++ r → number_at old q ≡ Some a → number_at new q ≡ Some a

  -- A node with nothing in it stands at r, and else the trie is as it was.
  pub record IsAdded (old new : Trie T) (r : KeyBits) (number : ℕ) : Type 0 where
    pub trie : IsTrie new
    pub leaf : (n : Node) → node_at new r ≡ Some n → (n.child_bits ≡ 0) × (n.data_bits ≡ 0)
    pub named : number_at new r ≡ Some number
    pub kept : (q : KeyBits) → is_kept new q ≡ (same_key q r || is_kept old q)
    pub held : (k : KeyBits) → held new k ≡ held old k
    pub values : new.values ≡ old.values
    pub numbers : KeepsWay old new r

  -- The key holds this value, and else the trie is as it was.
  pub record IsStored (old new : Trie T) (key : KeyBits) (value : T) : Type 0 where
    pub trie : IsTrie new
    pub kept : (q : KeyBits) → is_kept new q ≡ is_kept old q
    pub held : (k : KeyBits) → held new k ≡ cond (same_key k key) (Some value) (held old k)
    pub numbers : KeepsWay old new key

  -- The key held this value and holds none, and else the trie is as it was.
  pub record IsTaken (old new : Trie T) (key : KeyBits) (value : T) : Type 0 where
    pub trie : IsTrie new
    pub kept : (q : KeyBits) → is_kept new q ≡ is_kept old q
    pub was : held old key ≡ Some value
    pub held : (k : KeyBits) → held new k ≡ cond (same_key k key) None (held old k)

  -- The position r is not kept, and else the trie is as it was.
  pub record IsCut (old new : Trie T) (r : KeyBits) : Type 0 where
    pub trie : IsTrie new
    pub kept : (q : KeyBits) → is_kept new q ≡ (not (same_key q r) && is_kept old q)
    pub held : (k : KeyBits) → held new k ≡ held old k

  -- The nodes on the way to a key are there, and what is held stays.
  pub record IsWayMade (old new : Trie T) (bits : KeyBits) (len at depth : ℕ) : Type 0 where
    pub trie : IsTrie new
    pub kept : with_positions (table_view new).kept (take len bits) ≡ with_positions (table_view old).kept (take len bits)
    pub held : (k : KeyBits) → held new k ≡ held old k
    pub values : new.values ≡ old.values
    pub way : IsWayEnd new bits len at depth
    pub numbers : KeepsWay old new (take len bits)

  -- only room was made
  pub record IsSameTrie (old new : Trie T) : Type 0 where
    pub root : new.root ≡ old.root
    pub nodes : new.nodes.lists ≡ old.nodes.lists
    pub values : new.values.lists ≡ old.values.lists

  -- what storing a value at a key of a node does
  pub record IsInserted (old new : Trie T) (key : KeyBits) (value : T) (result : Result (Option T) T) : Type 0 where
    pub trie : IsTrie new
    pub kept : (q : KeyBits) → is_kept new q ≡ is_kept old q
    pub before : IfOk result (λ before. before ≡ held old key)
    pub stored : OnOk result ((k : KeyBits) → held new k ≡ cond (same_key k key) (Some value) (held old k))
    pub handed_back : IfErr result (λ back. back ≡ value)
    pub unchanged : OnErr result ((k : KeyBits) → held new k ≡ held old k)
    pub new_key : OnErr result (held old key ≡ None)
    pub numbers : KeepsWay old new key

  -- what storing a value at a key does to what a contract sees
  pub record IsEntered (old new : Trie T) (key : KeyBits) (value : T) (result : Result (Option T) T) : Type 0 where
    pub trie : IsTrie new
    pub before : IfOk result (λ before. before ≡ map.get (table_view old).entries key)
    pub entries : OnOk result ((table_view new).entries ≡ map.insert (table_view old).entries key value)
    pub kept : OnOk result ((table_view new).kept ≡ with_positions (table_view old).kept key)
    pub handed_back : IfErr result (λ back. back ≡ value)
    pub unchanged : OnErr result (IsSameTable (table_view old) (table_view new))
    pub new_key : OnErr result (map.get (table_view old).entries key ≡ None)
    pub numbers : KeepsWay old new key

  -- the child at a slot has nothing in it
  pub record IsBareChild (t : Trie T) (n : Node) (slot : ℕ) : Type 0 where
    pub leaf : Node
    pub is_child : child t n slot ≡ Some leaf
    pub no_data : leaf.data_bits ≡ 0
    pub no_children : leaf.child_bits ≡ 0

  -- what taking a value away does to what a contract sees
  pub record IsRemoved (old new : Trie T) (key : KeyBits) (result : Option T) : Type 0 where
    pub trie : IsTrie new
    pub value : result ≡ map.get (table_view old).entries key
    pub entries : (table_view new).entries ≡ map.remove (table_view old).entries key
    pub kept : (table_view new).kept ≡ (table_view old).kept

  -- what taking a node with nothing in it away does to what a contract sees
  pub record IsPruned (old new : Trie T) (p : KeyBits) : Type 0 where
    pub trie : IsTrie new
    pub entries : (table_view new).entries ≡ (table_view old).entries
    pub kept : (table_view new).kept ≡ prune (table_view old).entries (table_view old).kept p

  -- What taking the value at a key of so many bits away does, and then taking the positions of the key below this depth away, the longest first, where they are bare. The numbers of the position at this depth and of those above stay.
  pub record IsRemovedBelow (old new : Trie T) (bits : KeyBits) (len depth : ℕ) (result : Option T) : Type 0 where
    pub trie : IsTrie new
    pub value : result ≡ map.get (table_view old).entries (take len bits)
    pub entries : (table_view new).entries ≡ map.remove (table_view old).entries (take len bits)
    pub kept : (n : ℕ) → n ≡ len / 5 - depth / 5 → (table_view new).kept ≡ prune_steps (table_view new).entries (table_view old).kept (take len bits) n depth
    pub numbers : (q r : KeyBits) → take depth bits ≡ q ++ r → number_at new q ≡ number_at old q

  -- The way to a key of so many bits goes on below this depth: the position five bits longer stands.
  pub record WayGoesOn (t : Trie T) (bits : KeyBits) (len depth : ℕ) : Type 0 where
    pub down : depth + 5 ≤ len
    pub stands : IsSome (number_at t (take (depth + 5) bits))

  -- and all positions of the key but the empty one
  pub record IsRemovedPruned (old new : Trie T) (key : KeyBits) (result : Option T) : Type 0 where
    pub trie : IsTrie new
    pub value : result ≡ map.get (table_view old).entries key
    pub entries : (table_view new).entries ≡ map.remove (table_view old).entries key
    pub kept : (table_view new).kept ≡ pruned (table_view new).entries (table_view old).kept key

  -- The value at a key stands at a place of a block, and another may be written there.
  pub record IsValueAt (t : Trie T) (key : KeyBits) (at place : ℕ) : Type 0 where
    pub within : place < length (block t.values.lists at)
    pub value : held t key ≡ slice_get (block t.values.lists at) place
    pub written : (w : T) → IsStored t (record t { values = with_item t.values at place w }) key w
    pub numbers : (w : T) (q : KeyBits) → number_at (record t { values = with_item t.values at place w }) q ≡ number_at t q

  -- The key holds no value, and else the trie is as it was; so are the numbers of p and of the positions above.
  pub record IsDropped (old new : Trie T) (p key : KeyBits) : Type 0 where
    pub trie : IsTrie new
    pub kept : (q : KeyBits) → is_kept new q ≡ is_kept old q
    pub held_else : (k : KeyBits) → held new k ≡ cond (same_key k key) None (held old k)
    pub numbers : (q r : KeyBits) → p ≡ q ++ r → number_at new q ≡ number_at old q

  -- At the keys that begin with `key` nothing is held and no position is kept, but p itself, and else the trie is as it was; so are the numbers of p and of the positions above.
  pub record IsCleared (old new : Trie T) (p key : KeyBits) : Type 0 where
    pub trie : IsTrie new
    pub held_below : (r : KeyBits) → held new (key ++ r) ≡ None
    pub kept_below : (r : KeyBits) → key ++ r ≢ p → is_kept new (key ++ r) ≡ false
    pub held_else : (k : KeyBits) → ((r : KeyBits) → k ≢ key ++ r) → held new k ≡ held old k
    pub kept_else : (q : KeyBits) → ((r : KeyBits) → q ≢ key ++ r) → is_kept new q ≡ is_kept old q
    pub numbers : (q r : KeyBits) → p ≡ q ++ r → number_at new q ≡ number_at old q

  -- At the keys that begin with `key` nothing is held and no position is kept, but maybe the key itself, and else the trie is as it was.
  pub record IsKeyCleared (old new : Trie T) (key : KeyBits) : Type 0 where
    pub trie : IsTrie new
    pub held_below : (r : KeyBits) → held new (key ++ r) ≡ None
    pub kept_below : (r : KeyBits) → length r ≢ 0 → is_kept new (key ++ r) ≡ false
    pub held_else : (k : KeyBits) → ((r : KeyBits) → k ≢ key ++ r) → held new k ≡ held old k
    pub kept_else : (q : KeyBits) → ((r : KeyBits) → q ≢ key ++ r) → is_kept new q ≡ is_kept old q
