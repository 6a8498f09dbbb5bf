-- What a walk over a family has left at the beginning, and after a value was written.
use Rattle.std.proofs.Common.{◌≡◌, ℕ, Bool, true, false, cond, [], take, refl, ap, ◌∙◌}
use Rattle.std.specs.FinMap.{entries}
use Rattle.either.specs.declared.Either.TheVariants.{Left, Right}
use Rattle.prefix_model.specs.Keys.{KeyBits}
use Rattle.prefix_model.specs.Tables.{KeyMap}
use Rattle.prefix_model.specs.Walks.{walk, walk_from, walk_rest}
use Rattle.prefix_table.specs.declared.prefixes.PrefixKey.{Ghosts}
use Rattle.prefix_map.specs.Cursors.{walk_key, walk_within, walk_inclusive, walk_left}
use Rattle.prefix_map.specs.declared.map.cursor.Walk.{Walk}
use Rattle.prefix_model.proofs.Walking.SortedWalks.{walk_all}
use Rattle.prefix_model.proofs.WalkSplits.{walk_is}
use Rattle.prefix_model.proofs.Walking.WalkRest.{rest_written}
use Rattle.prefix_joint_walks.specs.Joint.{JointView, JointKey, both, with_value_at}
use Rattle.prefix_joint.specs.JointCursors.{joint_walk_key, joint_walk_inclusive, joint_walk_left}
use Rattle.prefix_joint.specs.declared.map.cursor.JointWalk.{JointWalk}

module _ {P T : Type 0} {g : Ghosts P} (m : KeyMap T) (w : Walk P g) where
  pub whole_left : walk_key w ≡ [] → walk_within w ≡ 0 → walk_inclusive w ≡ true → walk_left m w ≡ entries m
  whole_left last within inclusive = (λ i. walk_rest m (last i) (within i) (inclusive i)) ∙ walk_all m

  pub from_left : (key : KeyBits) (inclusive : Bool) → walk_key w ≡ key → walk_within w ≡ 0 → walk_inclusive w ≡ inclusive → walk_left m w ≡ walk_from m [] key inclusive
  from_left key inclusive last within is = λ i. walk_rest m (last i) (within i) (is i)

  pub below_left : (key : KeyBits) (n : ℕ) → take n key ≡ key → walk_key w ≡ key → walk_within w ≡ n → walk_inclusive w ≡ true → walk_left m w ≡ walk m key
  below_left key n whole last within is =
      (λ i. walk_rest m (last i) (within i) (is i)) ∙ ap (λ k. walk_from m k key true) whole ∙ walk_is m key

module _ {T A B : Type 0} {g1 : Ghosts A} {g2 : Ghosts B} (m : JointView T) where
  left_where : (b s : Bool) (f : Walk A g1) (e : Walk B g2) (v : T) → cond b (walk_inclusive f) (walk_inclusive e) ≡ false
      → both (cond b (walk_left m.t1.entries f) []) (cond s (walk_left m.t2.entries e) [])
      ≡ both (cond b (walk_left (with_value_at m (cond b (Left (walk_key f)) (Right (walk_key e))) v).t1.entries f) [])
      (cond s (walk_left (with_value_at m (cond b (Left (walk_key f)) (Right (walk_key e))) v).t2.entries e) [])
  left_where true s f e v passed =
      ap (λ es. both es (cond s (walk_left m.t2.entries e) [])) (rest_written m.t1.entries (walk_key f) (walk_key f) (walk_within f) (walk_inclusive f) v refl passed)
  left_where false s f e v passed =
      ap (λ es. both [] (cond s es [])) (rest_written m.t2.entries (walk_key e) (walk_key e) (walk_within e) (walk_inclusive e) v refl passed)

  -- a value written where a walk stands leaves what is behind it
  pub left_written : {P : Type 0} (w : JointWalk P A B g1 g2) (key : JointKey) (v : T) → joint_walk_key w ≡ key → joint_walk_inclusive w ≡ false → joint_walk_left m w ≡ joint_walk_left (with_value_at m key v) w
  left_written w key v is passed = left_where w.in_first w.has_second w.first w.second v passed ∙ ap (λ k. joint_walk_left (with_value_at m k v) w) is
