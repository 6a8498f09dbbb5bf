-- What the bits of a view's node say of its place.
use Rattle.std.specs.Prelude.{◌≡◌, ◌+◌, true, false, cond, ◌++◌, length, None, IsSome, is_some, ℕ, ◌<◌, ◌&&◌, take, IsBitSet}
use Rattle.std.specs.FinMap as map_of
use Rattle.std.proofs.Common.{refl, ap, ◌∙◌, length-append, append_assoc, sym, arith}
use Rattle.std.proofs.lemmas.Option.{slice_get_within, same_Some}
use Rattle.prefix_model.specs.Keys.{KeyBits, low_bits}
use Rattle.prefix_model.specs.Tables.{Values}
use Rattle.prefix_model.specs.Walks.{begins_with, node_of}
use Rattle.prefix_model.specs.Views.{under, Seen, data_below, children_below, node}
use Rattle.prefix_model.specs.Positions.{data_places, child_places, data_bits}
use Rattle.prefix_model.proofs.Fronts.{follows, front_take, front_both, front_of_all, take_front}
use Rattle.prefix_model.proofs.Nodes.{parts, node_is}
use Rattle.prefix_model.proofs.KeyNumbers.{length-low_bits}
use Rattle.prefix_model.proofs.KeyLemmas.{both_true}
use Rattle.prefix_model.proofs.Bitmaps.NodeBits.{set_at, set_of, places_count, children_count}
use Rattle.prefix_model.proofs.MaskBits.{child_slot}

pub under_some : {V : Type 0} (p : KeyBits) (f : Values V) (k : KeyBits) → IsSome (under p f k) → (begins_with p k ≡ true) × IsSome (f k)
under_some p f k h = elim (begins_with p k) as (λ b. is_some (cond b (f k) None) ≡ true → (b ≡ true) × IsSome (f k)) [ true ↦ λ s. (refl, s) | false ↦ λ s. cc ] h

pub under_front : {V : Type 0} (p : KeyBits) (f : Values V) (k : KeyBits) → begins_with p k ≡ true → under p f k ≡ f k
under_front p f k e = ap (λ b. cond b (f k) None) e

-- what follows the node of a place in a key that extends it
pub record Inside (p k : KeyBits) : Type 0 where
  pub rest : KeyBits
  pub whole : k ≡ node_of p ++ rest
  pub longer : length k ≡ length (node_of p) + length rest

pub inside : (p k : KeyBits) → begins_with p k ≡ true → Inside p k
inside p k e =
    let f = follows p k e in
    let q = parts p in
    let w : k ≡ node_of p ++ (q.inner ++ f.rest) = f.whole ∙ ap (λ x. x ++ f.rest) q.whole ∙ append_assoc (node_of p) q.inner f.rest in
    record { rest = q.inner ++ f.rest; whole = w; longer = ap length w ∙ length-append (node_of p) (q.inner ++ f.rest) }

-- the place a live view's key begins with
pub live_front : (bits rest : KeyBits) (n len : ℕ) → bits ≡ low_bits len n ++ rest → take len bits ≡ low_bits len n
live_front bits rest n len e = ap (take len) e ∙ ap (λ k. take k (low_bits len n ++ rest)) (sym (length-low_bits len n)) ∙ take_front (low_bits len n) rest

module _ {V : Type 0} (v : Seen V) where
  -- a data bit of the view is one of the node
  pub data_limit : (i : ℕ) → IsBitSet (data_below v) i → i < 31
  data_limit i h = let s = set_at data_places _ i h in let l = slice_get_within data_places i s.key s.is_at in let n = places_count in omega (arith, l, n)

  pub data_of_node : (p : KeyBits) → p ≡ node v → (i : ℕ) → IsBitSet (data_below v) i → IsBitSet (data_bits (map_of.get v.entries) p) i
  data_of_node p e i h =
      let s = set_at data_places (λ k. is_some (under v.place (map_of.get v.entries) (node v ++ k))) i h in
      let u = under_some v.place (map_of.get v.entries) (node v ++ s.key) s.passes in
      set_of data_places (λ k. is_some (map_of.get v.entries (p ++ k))) i s.key s.is_at (ap (λ x. is_some (map_of.get v.entries (x ++ s.key))) e ∙ u.1)

  pub child_limit : (i : ℕ) → IsBitSet (children_below v) i → i < 32
  child_limit i h = let s = set_at child_places _ i h in let l = slice_get_within child_places i s.key s.is_at in let n = children_count in omega (arith, l, n)

  -- a child bit of the view is a kept position
  pub child_kept : (i : ℕ) → IsBitSet (children_below v) i → map_of.contains_key v.kept (node v ++ low_bits 5 i) ≡ true
  child_kept i h =
      let s = set_at child_places (λ c. begins_with v.place (node v ++ c) && map_of.contains_key v.kept (node v ++ c)) i h in
      let k : s.key ≡ low_bits 5 i = same_Some _ _ (sym s.is_at ∙ child_slot i (child_limit i h)) in
      ap (λ c. map_of.contains_key v.kept (node v ++ c)) (sym k) ∙ (both_true _ _ s.passes).1

-- ---- a place in the same node

pub same_node : (p k : KeyBits) → begins_with p k ≡ true → length k < length (node_of p) + 5 → node_of k ≡ node_of p
same_node p k e l =
    let i = inside p k e in
    let m = i.longer in
    ap node_of i.whole ∙ node_is (node_of p) i.rest ((parts p).at_five) (omega (arith, m, l))

pub known_front : (n len to : ℕ) (bits : KeyBits) → begins_with (low_bits len n) (take to bits) ≡ true → low_bits len n ≡ take len bits
known_front n len to bits e =
    let p = low_bits len n in
    sym (ap (λ k. take k bits) (sym (length-low_bits len n)) ∙ front_take p bits (front_both p (take to bits) bits e (front_of_all to bits)))
