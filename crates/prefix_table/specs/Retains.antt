-- What `retain` asks of each entry, and what stays.
--     IsAsked bits w g f e r f'      f was called with the key of the entry e, of at most w bits, and a reference to its value; it answered r and is now f'
--     IsRetained ask f old new      the entries were asked about in key order, f first, and those stay where the answer was true
--     IsNamed bits w key p depth s      the key's bits are p and s with zeros behind them, where so many bits are
--     IsOwnSifted, IsSifted ask f f' old new p key      the entry at a key was asked about;  those at the keys that begin with it
use Rattle.std.specs.Prelude.{◌≡◌, ◌≢◌, ℕ, ◌+◌, ◌-◌, ◌≤◌, Bool, false, true, List, ◌++◌, length, replicate, IsSome}
use Rattle.std.proofs.Common.{Bor}
use Rattle.std.specs.Fn.{Called}
use Rattle.std.specs.FinMap as map
use Rattle.std.specs.List.{items_where_true}
use Rattle.std.specs.List.Retain.{IsFiltered, ReturnsInTurn}
use denote.Param.Members.{Mut}
use Rattle.prefix_model.specs.Keys.{KeyBits}
use Rattle.prefix_model.specs.Tables.{KeyMap}
use Rattle.prefix_model.specs.Walks.{own, walk}
use Rattle.prefix_table.specs.Tries.{held, is_kept, number_at, table_view, IsTrie}
use Rattle.prefix_table.specs.declared.trie.Trie.{Trie}

pub record IsAsked {F R T : Type 0} (bits : R → KeyBits) (w : ℕ) (g : Mut F (R × (ℕ × (Bor T × Unit {0}))) Bool) (f : F) (e : KeyBits × T) (r : Bool) (f' : F) : Type 0 where
  pub key : R
  -- the bits behind the key are clear
  pub names : bits key ≡ e.0 ++ replicate (w - length e.0) false
  pub shown : Bor T
  pub shows : shown.now ≡ e.1
  pub called : Called g f (key, (length e.0, (shown, tt))) r f'

abbrev pub IsRetained : {F T : Type 0} → (F → KeyBits × T → Bool → F → Type 0) → F → KeyMap T → KeyMap T → Type 0
IsRetained ask f old new = IsFiltered ask f (map.entries old) (map.entries new)

pub record IsNamed {R : Type 0} (bits : R → KeyBits) (w : ℕ) (key : R) (p : KeyBits) (depth : ℕ) (s : KeyBits) : Type 0 where
  pub depth_is : length p ≡ depth
  pub names : length p + length s ≤ w → bits key ≡ (p ++ s) ++ replicate (w - (length p + length s)) false

module _ {T : Type 0} where
  abbrev pub walk_of : Trie T → KeyBits → List (KeyBits × T)
  walk_of t key = walk (table_view t).entries key

  abbrev pub own_of : Trie T → KeyBits → List (KeyBits × T)
  own_of t key = own key (held t key)

module _ {F T : Type 0} (ask : F → KeyBits × T → Bool → F → Type 0) where
  -- The entry at the key, if there is one, was asked about, and stays where the answer was true. Else the trie is as it was; so are the numbers of p and of the positions above.
  pub record IsOwnSifted (f f' : F) (old new : Trie T) (p key : KeyBits) : Type 0 where
    pub trie : IsTrie new
    pub answers : List Bool
    pub count : length answers ≡ length (own_of old key)
    pub asked : ReturnsInTurn ask f answers (own_of old key) f'
    pub left : own_of new key ≡ items_where_true answers (own_of old key)
    pub held_else : (k : KeyBits) → k ≢ key → held new k ≡ held old k
    pub kept : (q : KeyBits) → is_kept new q ≡ is_kept old q
    pub fewer : (k : KeyBits) → IsSome (held new k) → IsSome (held old k)
    pub numbers : (q r : KeyBits) → p ≡ q ++ r → number_at new q ≡ number_at old q

  -- The entries at the keys that begin with `key` were asked about in key order, and those stay where the answer was true. Of the positions there, p itself but for, those are kept that have an entry at or below them. Else the trie is as it was; so are the numbers of p and of the positions above.
  pub record IsSifted (f f' : F) (old new : Trie T) (p key : KeyBits) : Type 0 where
    pub trie : IsTrie new
    pub answers : List Bool
    pub count : length answers ≡ length (walk_of old key)
    pub asked : ReturnsInTurn ask f answers (walk_of old key) f'
    pub left : walk_of new key ≡ items_where_true answers (walk_of old key)
    pub kept_below : (r : KeyBits) → key ++ r ≢ p → is_kept new (key ++ r) ≡ true → (s : KeyBits) × IsSome (held new ((key ++ r) ++ s))
    pub held_else : (k : KeyBits) → ((r : KeyBits) → k ≢ key ++ r) → held new k ≡ held old k
    pub kept_else : (q : KeyBits) → ((r : KeyBits) → q ≢ key ++ r) → is_kept new q ≡ is_kept old q
    pub fewer : (k : KeyBits) → IsSome (held new k) → IsSome (held old k)
    pub numbers : (q r : KeyBits) → p ≡ q ++ r → number_at new q ≡ number_at old q
