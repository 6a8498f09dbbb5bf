-- What the second walk reads and stores, at the keys of a node and of its slots.
--     place_key b      what the place b adds to the key of its node;  from 31 on, what the slot b - 31 adds
--     StandsAt xs i ys      the items ys stand in xs from i on
--     IsSettled cmp c v      a key with the candidates c that inherits v stores nothing, and hands v down
--     is_inherited cmp a v      whether the answer a is what is inherited
--     lists_before mask b, list_of sets node b      how many lists the mask tells before that of the place b;  that list
--     stored_at, handed_down cmp sets node b v      what the place b stores, where it inherits v;  and hands down
--     node_masks, node_lists cmp w view q a      the masks and lists of the nodes at and below the position q, where a is inherited there
--     masks_below, lists_below cmp w view n q a      those of the nodes n bits below the key q and below them, where a is inherited at q
--     nodes_below w view have n q a      what those nodes have, in key order
--     IsRead cmp w view sets p node      the node at p as it is read, and its part of the change sets
--     IsHere cmp w view p node b q n a v      the place b of the node at p has the key q of n bits, with the answer a and the value v above
--     IsPlaced cmp w view q n a v old new      what is placed at and below the key q of n bits is inserted
use Rattle.std.specs.Prelude.{◌≡◌, ℕ, zero, suc, ◌+◌, ◌-◌, ◌/◌, ◌<◌, ◌≤◌, ◌==◌, ◌&&◌, nat_le, Bool, true, false, cond, List, [], ◌∷◌, ◌++◌, length, drop, get_or, slice_get, Option, Some, None}
use Rattle.std.specs.Option.{option_copied, option_or}
use Rattle.std.specs.Int.{bit_at}
use Rattle.std.specs.FinMap as map
use Rattle.std.specs.Ordering.{eq_by_cmp}
use Rattle.std.specs.declared.cmp.Ordering.{Ordering}
use Rattle.prefix_model.specs.Keys.{KeyBits}
use Rattle.prefix_model.specs.Tables.{KeyMap}
use Rattle.prefix_model.specs.Positions.{data_places, child_places, data_bits, child_bits}
use Rattle.prefix_model.specs.Candidates.{Candidates, candidates}
use Rattle.prefix_model.specs.Building.{insert_all}
use Rattle.prefix_model.specs.LeastTable.{stored, inherited, placed}
use Rattle.prefix_model.specs.TableViews.{TableView}
use Rattle.prefix_model.specs.Slots.{place}
use Rattle.prefix_model.specs.Places.{answers_from}
use Rattle.prefix_aggregate.specs.Lists.{at}
use Rattle.prefix_aggregate.specs.Inner.{AreInner}
use Rattle.prefix_aggregate.specs.ChangeSets.{ChangeLists, candidates_from}
use Rattle.prefix_aggregate.specs.Trees.{from, tree_masks, tree_lists}
use Rattle.prefix_aggregate.specs.declared.writing.Node.{Node}

unfoldable pub place_key : ℕ → KeyBits
place_key b = get_or (data_places ++ child_places) b []

abbrev pub StandsAt : {A : Type 0} → List A → ℕ → List A → Type 0
StandsAt xs i ys = drop i xs ≡ ys ++ drop (i + length ys) xs

abbrev pub lists_before : ℕ → ℕ → ℕ
lists_before = place

module _ {T : Type 0} where
  abbrev pub list_of : ChangeLists T → Node T → ℕ → Candidates T
  list_of sets node b = get_or sets.lists (node.list + lists_before node.mask b) None

  -- what the nodes n bits below the key q have, in key order, where a is inherited at q
  unfoldable pub nodes_below : ℕ → TableView T → {A : Type 0} → (KeyBits → Option T → List A) → ℕ → KeyBits → Option T → List A
  nodes_below w view have zero q a = cond (nat_le (length q) w && map.contains_key view.kept q) (have q a) []
  nodes_below w view have (suc n) q a = nodes_below w view have n (q ++ false ∷ []) (option_or (map.get view.entries q) a) ++ nodes_below w view have n (q ++ true ∷ []) (option_or (map.get view.entries q) a)

module _ {T : Type 0} (cmp : T → T → Ordering) where
  pub record IsSettled (c : Candidates T) (v : Option T) : Type 0 where
    pub nothing : stored cmp c v ≡ None
    pub same : inherited cmp c v ≡ v

  abbrev pub is_inherited : Option T → Option T → Bool
  is_inherited None v = false
  is_inherited (Some x) None = false
  is_inherited (Some x) (Some y) = eq_by_cmp cmp y x

  abbrev pub stored_at : ChangeLists T → Node T → ℕ → Option T → Option T
  stored_at sets node b v = cond (bit_at node.mask b == 1) (stored cmp (list_of sets node b) v) None

  abbrev pub handed_down : ChangeLists T → Node T → ℕ → Option T → Option T
  handed_down sets node b v = cond (bit_at node.mask b == 1) (inherited cmp (list_of sets node b) v) v

  module _ (w : ℕ) (view : TableView T) where
    abbrev pub node_masks : KeyBits → Option T → List ℕ
    node_masks q a = tree_masks cmp ((w - length q) / 5) (w - length q) (answers_from view q a) (from q (map.contains_key view.kept))

    abbrev pub node_lists : KeyBits → Option T → List (Candidates T)
    node_lists q a = tree_lists cmp ((w - length q) / 5) (w - length q) (answers_from view q a) (from q (map.contains_key view.kept))

    abbrev pub masks_below : ℕ → KeyBits → Option T → List ℕ
    masks_below = nodes_below w view node_masks

    abbrev pub lists_below : ℕ → KeyBits → Option T → List (Candidates T)
    lists_below = nodes_below w view node_lists

    -- the candidates at a key s of the node at p, which inherits the answer v
    abbrev pub candidates_in : KeyBits → Option T → KeyBits → Candidates T
    candidates_in p v = candidates_from cmp (w - length p) (answers_from view p v)

    -- A place is inner that has a bit of the mask or a child below. Where a bit of the mask is set there is the list of its place. Where it is not, the candidates are those of the place above.
    pub record IsRead (sets : ChangeLists T) (p : KeyBits) (node : Node T) : Type 0 where
      pub values : node.bits.data_bits ≡ data_bits (map.get view.entries) p
      pub children : length p + 5 ≤ w → node.bits.child_bits ≡ child_bits (map.contains_key view.kept) p
      pub no_children : w < length p + 5 → node.bits.child_bits ≡ 0
      pub inner : AreInner node.mask node.bits.child_bits node.inner 0
      pub fits : (b : ℕ) (s : KeyBits) → 0 < b → slice_get data_places b ≡ Some s → bit_at node.mask b ≡ 1 → length (p ++ s) ≤ w
      pub first : bit_at node.mask 0 ≡ 1
      pub listed : (b : ℕ) → b < 31 → bit_at node.mask b ≡ 1 → slice_get sets.lists (node.list + lists_before node.mask b) ≡ Some (candidates_in p (option_copied node.inherited) (place_key b))
      pub unlisted : (b : ℕ) → 0 < b → b < 31 → length p + length (place_key b) ≤ w → bit_at node.mask b ≡ 0
          → candidates_in p (option_copied node.inherited) (place_key b) ≡ candidates_in p (option_copied node.inherited) (place_key ((b - 1) / 2))

    -- at a place whose list is not told, what stands above is settled already
    pub record IsHere (p : KeyBits) (node : Node T) (b : ℕ) (q : KeyBits) (n : ℕ) (a v : Option T) : Type 0 where
      pub key : q ≡ p ++ place_key b
      pub long : n ≡ length q
      pub within : n ≤ w
      pub answers : (k : KeyBits) → answers_from view p (option_copied node.inherited) (place_key b ++ k) ≡ answers_from view q a k
      pub settled : b < 31 → bit_at node.mask b ≡ 0 → IsSettled (candidates cmp (w - n) (answers_from view q a)) v

    abbrev pub IsPlaced : KeyBits → ℕ → Option T → Option T → KeyMap T → KeyMap T → Type 0
    IsPlaced q n a v old new = new ≡ insert_all old (at q (placed cmp (w - n) (answers_from view q a) v))
