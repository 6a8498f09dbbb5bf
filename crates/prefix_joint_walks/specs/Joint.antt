-- What a contract sees of a table over two families.
--     JointView T      the maps of both families
--     JointKey      a key of one of the families: its bits, on the side of the family
--     family view key, other view key      the map of the key's family, and that of the other one
--     value_at view key      the value that the view has at a key
--     with_family, with_entry_at, with_value_at      the view with another map of the key's family, with an entry, with another value
--     joint_entries view      all entries: the first family before the second, each in key order
--     joint_walk m1 m2 key, joint_walk_from m1 m2 key inclusive      the entries that extend a key;  those that do not stand before it
--     joint_covers m1 m2 key      the entries whose keys are fronts of a key, the shortest first
--     joint_fronts view key      the same in the key's family alone
--     shortest_at view key      the first of them, and none where there is none
--     IsLongestAt view key r      r is the longest stored key that is a front of the key, and none where there is none
--     nothing, all_inserted view items      the empty view;  the view with these items inserted in order
--     Fits w1 g1 w2 g2 p      a prefix is no longer than its family is wide
--     HasZeroHostBits w1 g1 w2 g2 p      the host bits of a prefix are zero
use Rattle.std.specs.Prelude.{ℕ, ◌≤◌, Bool, List, [], ◌∷◌, ◌++◌, map, Option, Some, None, MatchOption, slice_get}
use Rattle.std.specs.Option.{option_map}
use Rattle.std.proofs.Common.{refl}
use Rattle.std.specs.FinMap as finmap
use Rattle.std.specs.Coded.{Coded, code_by, coded×}
use Rattle.either.specs.Either.{MatchEither, IsLeftAnd, IsRightAnd, either}
use Rattle.either.specs.declared.Either.{Either}
use Rattle.either.specs.declared.Either.TheVariants.{Left, Right}
use Rattle.prefix_model.specs.Keys.{KeyBits}
use Rattle.prefix_model.specs.Tables.{KeyMap}
use Rattle.prefix_model.specs.Positions.{root_alone}
use Rattle.prefix_model.specs.Walks.{walk, walk_from, covers, IsLongestUnder}
use Rattle.prefix_table.specs.declared.prefixes.PrefixKey.{Ghosts}
use Rattle.prefix_map.specs.Items.{IsItem}
use Rattle.prefix_map.specs.MapViews.{MapView, coded_view, with_entry, with_value}

pub record JointView (T : Type 0) : Type 0 where
  pub t1 : MapView T
  pub t2 : MapView T

-- a view is stored as its two maps
abbrev pub coded_joint : {T : Type 0} → Coded T → Coded (JointView T)
coded_joint {T} code =
    code_by (MapView T × MapView T) (coded× (coded_view code) (coded_view code))
    (λ v. (v.t1, v.t2)) (λ p. record { t1 = p.0; t2 = p.1 }) (λ _. refl)

abbrev pub JointKey : Type 0
JointKey = Either KeyBits KeyBits

-- the bits of a key, whatever its family
abbrev pub key_bits : JointKey → KeyBits
key_bits = either (λ k. k) (λ k. k)

module _ {T : Type 0} where
  -- the map of the key's family
  abbrev pub family : JointView T → JointKey → MapView T
  family view (Left k) = view.t1
  family view (Right k) = view.t2

  -- the map of the other family
  abbrev pub other : JointView T → JointKey → MapView T
  other view (Left k) = view.t2
  other view (Right k) = view.t1

  abbrev pub value_at : JointView T → JointKey → Option T
  value_at view (Left k) = finmap.get view.t1.entries k
  value_at view (Right k) = finmap.get view.t2.entries k

  -- the view with this map as the map of the key's family
  abbrev pub with_family : JointView T → JointKey → MapView T → JointView T
  with_family view (Left k) m = record view { t1 = m }
  with_family view (Right k) m = record view { t2 = m }

  -- the view with this value at the key, and its positions kept
  abbrev pub with_entry_at : JointView T → JointKey → T → JointView T
  with_entry_at view (Left k) value = record view { t1 = with_entry view.t1 k value }
  with_entry_at view (Right k) value = record view { t2 = with_entry view.t2 k value }

  -- the view with another value at the key, which is stored
  abbrev pub with_value_at : JointView T → JointKey → T → JointView T
  with_value_at view (Left k) value = record view { t1 = with_value view.t1 k value }
  with_value_at view (Right k) value = record view { t2 = with_value view.t2 k value }

  -- the entries of one family, as entries of both
  abbrev pub first_entries : List (KeyBits × T) → List (JointKey × T)
  first_entries = map (λ e. (Left e.0, e.1))

  abbrev pub second_entries : List (KeyBits × T) → List (JointKey × T)
  second_entries = map (λ e. (Right e.0, e.1))

  -- entries of the first family, and then entries of the second
  abbrev pub both : List (KeyBits × T) → List (KeyBits × T) → List (JointKey × T)
  both es fs = first_entries es ++ second_entries fs

  abbrev pub joint_entries : JointView T → List (JointKey × T)
  joint_entries view = both (finmap.entries view.t1.entries) (finmap.entries view.t2.entries)

  -- the entries whose keys extend a key
  abbrev pub joint_walk : KeyMap T → KeyMap T → JointKey → List (JointKey × T)
  joint_walk m1 m2 (Left k) = both (walk m1 k) []
  joint_walk m1 m2 (Right k) = both [] (walk m2 k)

  -- those that do not stand before a key, without the key itself where it does not count: from a key of the first family
  -- on through the whole second
  abbrev pub joint_walk_from : KeyMap T → KeyMap T → JointKey → Bool → List (JointKey × T)
  joint_walk_from m1 m2 (Left k) inclusive = both (walk_from m1 [] k inclusive) (finmap.entries m2)
  joint_walk_from m1 m2 (Right k) inclusive = both [] (walk_from m2 [] k inclusive)

  -- those whose keys are fronts of a key, the shortest first
  abbrev pub joint_covers : KeyMap T → KeyMap T → JointKey → List (JointKey × T)
  joint_covers m1 m2 (Left k) = first_entries (covers m1 k)
  joint_covers m1 m2 (Right k) = second_entries (covers m2 k)

  -- the same, with the keys as bits
  abbrev pub joint_fronts : JointView T → JointKey → List (KeyBits × T)
  joint_fronts view (Left k) = covers view.t1.entries k
  joint_fronts view (Right k) = covers view.t2.entries k

  -- the shortest of them, and none where there is none
  abbrev pub shortest_at : JointView T → JointKey → Option (JointKey × T)
  shortest_at view (Left k) = option_map (λ (e : KeyBits × T). (Left e.0, e.1)) (slice_get (covers view.t1.entries k) 0)
  shortest_at view (Right k) = option_map (λ (e : KeyBits × T). (Right e.0, e.1)) (slice_get (covers view.t2.entries k) 0)

  -- the longest stored key that is a front of a key, and none where there is none
  abbrev pub IsLongestAt : JointView T → JointKey → Option JointKey → Type 0
  IsLongestAt view (Left k) r = MatchOption r (IsLongestUnder view.t1.entries [] k None) (λ q. IsLeftAnd q (λ q. IsLongestUnder view.t1.entries [] k (Some q)))
  IsLongestAt view (Right k) r = MatchOption r (IsLongestUnder view.t2.entries [] k None) (λ q. IsRightAnd q (λ q. IsLongestUnder view.t2.entries [] k (Some q)))

  -- the view with these items inserted in order
  abbrev pub all_inserted : JointView T → List (JointKey × T) → JointView T
  all_inserted view [] = view
  all_inserted view (e ∷ es) = all_inserted (with_entry_at view e.0 e.1) es

-- no entry
abbrev pub nothing : {T : Type 0} → JointView T
nothing = record { t1 = record { entries = finmap.empty; kept = root_alone }; t2 = record { entries = finmap.empty; kept = root_alone } }

module _ {P1 P2 : Type 0} (w1 : ℕ) (g1 : Ghosts P1) (w2 : ℕ) (g2 : Ghosts P2) where
  -- the prefix is at most as long as its family is wide
  abbrev pub Fits : Either P1 P2 → Type 0
  Fits p = MatchEither p (λ p. g1.prefix_len p ≤ w1) (λ p. g2.prefix_len p ≤ w2)

  -- the bits behind its key are zero
  abbrev pub HasZeroHostBits : Either P1 P2 → Type 0
  HasZeroHostBits p = MatchEither p (λ p. IsItem w1 g1 p (g1.key p)) (λ p. IsItem w2 g2 p (g2.key p))
