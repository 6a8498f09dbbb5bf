-- What the iterators over two families give.
--     GivesJoint p .. es r fs      a call gave the first of the entries es and left fs, or gave none of none
--     GivesJointKey, GivesJointPair, GivesJointValue      the same of its prefix, of its prefix beside none, and of its value
--     GivesJointOwned, GivesJointOwnedValue      the same, where the value itself is given
use Rattle.std.specs.Prelude.{◌≡◌, ℕ, List, [], ◌∷◌, Option, None, MatchOption}
use Rattle.std.specs.Borrow.{Bor}
use Rattle.either.specs.Either.{map_either}
use Rattle.either.specs.declared.Either.{Either}
use Rattle.prefix_table.specs.declared.prefixes.PrefixKey.{Ghosts}
use Rattle.prefix_joint_walks.specs.Joint.{JointKey, HasZeroHostBits}

module _ {P P1 P2 : Type 0} (prefix : P → Either P1 P2) (w1 : ℕ) (g1 : Ghosts P1) (w2 : ℕ) (g2 : Ghosts P2) where
  abbrev pub GivesJoint : {T : Type 0} → List (JointKey × T) → Option (P × Bor T) → List (JointKey × T) → Type 0
  GivesJoint es r fs = MatchOption r ((es ≡ []) × (fs ≡ []))
      (λ item. (es ≡ (map_either g1.key g2.key (prefix item.0), item.1.now) ∷ fs) × HasZeroHostBits w1 g1 w2 g2 (prefix item.0))

  abbrev pub GivesJointOwned : {T : Type 0} → List (JointKey × T) → Option (P × T) → List (JointKey × T) → Type 0
  GivesJointOwned es r fs = MatchOption r ((es ≡ []) × (fs ≡ []))
      (λ item. (es ≡ (map_either g1.key g2.key (prefix item.0), item.1) ∷ fs) × HasZeroHostBits w1 g1 w2 g2 (prefix item.0))

  abbrev pub GivesJointKey : {T : Type 0} → List (JointKey × T) → Option P → List (JointKey × T) → Type 0
  GivesJointKey {T} es r fs = MatchOption r ((es ≡ []) × (fs ≡ []))
      (λ p. (v : T) × (es ≡ (map_either g1.key g2.key (prefix p), v) ∷ fs) × HasZeroHostBits w1 g1 w2 g2 (prefix p))

  -- with none beside the prefix
  abbrev pub GivesJointPair : {T : Type 0} → List (JointKey × T) → Option (P × Option P) → List (JointKey × T) → Type 0
  GivesJointPair {T} es r fs = MatchOption r ((es ≡ []) × (fs ≡ []))
      (λ item. (v : T) × (es ≡ (map_either g1.key g2.key (prefix item.0), v) ∷ fs) × (item.1 ≡ None) × HasZeroHostBits w1 g1 w2 g2 (prefix item.0))

abbrev pub GivesJointValue : {T : Type 0} → List (JointKey × T) → Option (Bor T) → List (JointKey × T) → Type 0
GivesJointValue es r fs = MatchOption r ((es ≡ []) × (fs ≡ [])) (λ v. (k : JointKey) × (es ≡ (k, v.now) ∷ fs))

abbrev pub GivesJointOwnedValue : {T : Type 0} → List (JointKey × T) → Option T → List (JointKey × T) → Type 0
GivesJointOwnedValue es r fs = MatchOption r ((es ≡ []) × (fs ≡ [])) (λ v. (k : JointKey) × (es ≡ (k, v) ∷ fs))
