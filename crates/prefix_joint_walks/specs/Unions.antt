-- What the set operations of two maps give.
--     Sides L R      the values of a key: on the left, on the right, or on both sides
--     merged ls rs      one item per key of either of two lists in key order, in that order
--     in_both es, on_left_alone es      the items of both sides, those of the left side alone
--     union_of l r      one item per key of either of two joint maps: the first family before the second, each in key order
--     not_covered m es, covering_difference_of l r      the entries whose keys begin with no key of a map;  of both families of joint maps
--     GivesUnion .. es r fs      a call gave the first of the items es and left fs, or gave none of none
use Rattle.std.specs.Prelude.{◌≡◌, ℕ, ⊤, List, [], ◌∷◌, map, is_none, slice_get, Option, Some, None, MatchOption}
use Rattle.std.specs.Borrow.{Bor}
use Rattle.std.specs.FinMap.{entries}
use Rattle.std.specs.List.{filter}
use Rattle.std.specs.Ordering.{match_ordering}
use Rattle.either.specs.Either.{map_either}
use Rattle.either.specs.declared.Either.{Either}
use Rattle.prefix_model.specs.Keys.{KeyBits, key_cmp}
use Rattle.prefix_model.specs.Tables.{KeyMap}
use Rattle.prefix_model.specs.Walks.{covers}
use Rattle.prefix_table.specs.declared.prefixes.PrefixKey.{Ghosts}
use Rattle.prefix_map.specs.Items.{IsItem}
use Rattle.prefix_joint_walks.specs.Joint.{JointKey, JointView, both, HasZeroHostBits}
use Rattle.prefix_joint_walks.specs.declared.difference.DifferenceItem.{DifferenceItem}
use Rattle.prefix_joint_walks.specs.declared.union.UnionItem.{UnionItem}
use Rattle.prefix_joint_walks.specs.declared.union.UnionItem.TheVariants.{Left, Right, Both}

pub data Sides (L R : Type 0) : Type 0 where
  on_left : L → Sides L R
  on_right : R → Sides L R
  on_both : L → R → Sides L R

module _ {L R : Type 0} where
  abbrev pub merged : List (KeyBits × L) → List (KeyBits × R) → List (KeyBits × Sides L R)
  merged [] rs = map (λ e. (e.0, on_right e.1)) rs
  merged (l ∷ ls) [] = (l.0, on_left l.1) ∷ merged ls []
  merged (l ∷ ls) (r ∷ rs) = match_ordering (key_cmp l.0 r.0) ((l.0, on_left l.1) ∷ merged ls (r ∷ rs)) ((l.0, on_both l.1 r.1) ∷ merged ls rs) ((r.0, on_right r.1) ∷ merged (l ∷ ls) rs)

  -- one item per key of either of two joint maps
  abbrev pub union_of : JointView L → JointView R → List (JointKey × Sides L R)
  union_of l r = both (merged (entries l.t1.entries) (entries r.t1.entries)) (merged (entries l.t2.entries) (entries r.t2.entries))

-- the entries whose keys begin with no key of a map
abbrev pub not_covered : {L R : Type 0} → KeyMap R → List (KeyBits × L) → List (KeyBits × L)
not_covered m = filter (λ e. is_none (slice_get (covers m e.0) 0))

abbrev pub covering_difference_of : {L R : Type 0} → JointView L → JointView R → List (JointKey × L)
covering_difference_of l r = both (not_covered r.t1.entries (entries l.t1.entries)) (not_covered r.t2.entries (entries l.t2.entries))

-- the keys of both sides
abbrev pub in_both : {K L R : Type 0} → List (K × Sides L R) → List (K × (L × R))
in_both [] = []
in_both ((k, on_left l) ∷ es) = in_both es
in_both ((k, on_right r) ∷ es) = in_both es
in_both ((k, on_both l r) ∷ es) = (k, (l, r)) ∷ in_both es

-- the keys of the left side alone
abbrev pub on_left_alone : {K L R : Type 0} → List (K × Sides L R) → List (K × L)
on_left_alone [] = []
on_left_alone ((k, on_left l) ∷ es) = (k, l) ∷ on_left_alone es
on_left_alone ((k, on_right r) ∷ es) = on_left_alone es
on_left_alone ((k, on_both l r) ∷ es) = on_left_alone es

-- f of the prefix that was taken, and d where none was
abbrev pub next_of : {P T A : Type 0} → A → (P → A) → Option (P × Bor T) → A
next_of d f None = d
next_of d f (Some item) = f item.0

module _ {P L R : Type 0} where
  abbrev pub item_prefix : UnionItem P L R → P
  item_prefix (Left p l r) = p
  item_prefix (Right p l r) = p
  item_prefix (Both p l r) = p

  abbrev pub item_sides : UnionItem P L R → Sides L R
  item_sides (Left p l r) = on_left l.now
  item_sides (Right p l r) = on_right r.now
  item_sides (Both p l r) = on_both l.now r.now

  -- the prefix and both values; the prefix and the left value, the prefix and the right value
  abbrev pub item_both : UnionItem P L R → Option (P × Bor L × Bor R)
  item_both (Left p l r) = None
  item_both (Right p l r) = None
  item_both (Both p l r) = Some (p, l, r)

  abbrev pub item_left : UnionItem P L R → Option (P × Bor L)
  item_left (Left p l r) = Some (p, l)
  item_left (Right p l r) = l
  item_left (Both p l r) = Some (p, l)

  abbrev pub item_right : UnionItem P L R → Option (P × Bor R)
  item_right (Left p l r) = r
  item_right (Right p l r) = Some (p, r)
  item_right (Both p l r) = Some (p, r)

  -- the optional fields are none
  abbrev pub IsPlain : UnionItem P L R → Type 0
  IsPlain (Left p l r) = r ≡ None
  IsPlain (Right p l r) = l ≡ None
  IsPlain (Both p l r) = ⊤

module _ {P L R : Type 0} (w : ℕ) (g : Ghosts P) where
  abbrev pub GivesUnion : List (KeyBits × Sides L R) → Option (UnionItem P L R) → List (KeyBits × Sides L R) → Type 0
  GivesUnion es r fs = MatchOption r ((es ≡ []) × (fs ≡ []))
      (λ item. (es ≡ (g.key (item_prefix item), item_sides item) ∷ fs) × IsPlain item × IsItem w g (item_prefix item) (g.key (item_prefix item)))

module _ {P P1 P2 L R : Type 0} (prefix : P → Either P1 P2) (w1 : ℕ) (g1 : Ghosts P1) (w2 : ℕ) (g2 : Ghosts P2) where
  abbrev pub GivesJointUnion : List (JointKey × Sides L R) → Option (UnionItem P L R) → List (JointKey × Sides L R) → Type 0
  GivesJointUnion es r fs = MatchOption r ((es ≡ []) × (fs ≡ []))
      (λ item. (es ≡ (map_either g1.key g2.key (prefix (item_prefix item)), item_sides item) ∷ fs) × IsPlain item × HasZeroHostBits w1 g1 w2 g2 (prefix (item_prefix item)))

  abbrev pub GivesShared : List (JointKey × (L × R)) → Option (P × Bor L × Bor R) → List (JointKey × (L × R)) → Type 0
  GivesShared es r fs = MatchOption r ((es ≡ []) × (fs ≡ []))
      (λ item. (es ≡ (map_either g1.key g2.key (prefix item.0), (item.1.now, item.2.now)) ∷ fs) × HasZeroHostBits w1 g1 w2 g2 (prefix item.0))

  abbrev pub GivesLeft : List (JointKey × L) → Option (DifferenceItem P L R) → List (JointKey × L) → Type 0
  GivesLeft es r fs = MatchOption r ((es ≡ []) × (fs ≡ []))
      (λ item. (es ≡ (map_either g1.key g2.key (prefix item.prefix), item.value.now) ∷ fs) × (item.right ≡ None) × HasZeroHostBits w1 g1 w2 g2 (prefix item.prefix))
