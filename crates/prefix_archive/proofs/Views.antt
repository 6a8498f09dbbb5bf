-- What the calls of a view of an archived map read of its node.
use Rattle.std.proofs.Common.{◌≡◌, ℕ, ◌+◌, ◌<◌, true, [], ◌++◌, length, take, refl, sym, ap, ◌∙◌, arith, length-take}
use Rattle.std.specs.Prelude.{◌&&◌, IsBitSet}
use Rattle.std.specs.FinMap as map_of
use Rattle.prefix_model.specs.Keys.{KeyBits, low_bits}
use Rattle.prefix_model.specs.Tables.{KeyMap}
use Rattle.prefix_model.specs.Positions.{child_places, child_bits, position_set}
use Rattle.prefix_model.specs.InPlace.{is_position}
use Rattle.prefix_model.specs.Walks.{begins_with, node_of}
use Rattle.prefix_model.proofs.KeyLemmas.{both_true}
use Rattle.prefix_model.proofs.KeyNumbers.{length-low_bits}
use Rattle.prefix_model.specs.Views.{children_below}
use Rattle.prefix_model.proofs.Nodes.{node_itself}
use Rattle.prefix_model.proofs.Bitmaps.NodeBits.{set_at, set_of}
use Rattle.prefix_model.proofs.Viewing.ViewBits.{same_node}
use Rattle.prefix_archive.specs.ArchivedViews.{seen_in}
use Rattle.prefix_archive.specs.ViewLaws.{keeps_position, position_length}

pub node_depth : (depth path n len : ℕ) → low_bits depth path ≡ node_of (low_bits len n) → depth ≡ length (node_of (low_bits len n))
node_depth depth path n len at = sym (length-low_bits depth path) ∙ ap length at

module _ {V : Type 0} (m : KeyMap V) where
  -- the child bits of a node, by the kept positions
  pub kept_children : (p q : KeyBits) → p ≡ q → child_bits (is_position m) p ≡ child_bits (map_of.contains_key (position_set m)) q
  kept_children p q e = λ i. child_bits (λ c. sym (keeps_position m c) i) (e i)

  -- a child bit of the view is one of the node
  pub child_of_node : (n len : ℕ) (p : KeyBits) → p ≡ node_of (low_bits len n) → (bit : ℕ) → IsBitSet (children_below (seen_in m n len)) bit → IsBitSet (child_bits (is_position m) p) bit
  child_of_node n len p e bit h =
      let place = low_bits len n in
      let s = set_at child_places (λ c. begins_with place (node_of place ++ c) && map_of.contains_key (position_set m) (node_of place ++ c)) bit h in
      let there = (both_true _ _ s.passes).1 in
      set_of child_places (λ c. is_position m (p ++ c)) bit s.key s.is_at
      (sym (keeps_position m (p ++ s.key)) ∙ ap (λ x. map_of.contains_key (position_set m) (x ++ s.key)) e ∙ there)

  -- a view at its node
  pub at_node : (depth path n len : ℕ) → is_position m (low_bits depth path) ≡ true → n ≡ path → len ≡ depth → low_bits depth path ≡ node_of (low_bits len n)
  at_node depth path n len kept same_number same_length =
      sym (ap node_of (λ i. low_bits (same_length i) (same_number i)) ∙ node_itself (low_bits depth path) (position_length m (low_bits depth path) kept))

-- the node of a longer place in the same node
pub longer_place : (depth path n len k to : ℕ) (bits : KeyBits) → low_bits depth path ≡ node_of (low_bits len n) → begins_with (low_bits len n) (take to bits) ≡ true → to < length (node_of (low_bits len n)) + 5 → low_bits to k ≡ take to bits
    → low_bits depth path ≡ node_of (low_bits to k)
longer_place depth path n len k to bits at front near same =
    let long = length-take to bits in
    at ∙ sym (ap node_of same ∙ same_node (low_bits len n) (take to bits) front (omega (arith, near, long)))

pub no_bits_left : (d x : ℕ) → d ≡ 0 → low_bits d x ≡ []
unfolding low_bits
no_bits_left d x e = ap (λ k. low_bits k x) e

pub root_place : (depth path : ℕ) → depth ≡ 0 → low_bits depth path ≡ node_of (low_bits 0 0)
root_place depth path e = no_bits_left depth path e ∙ sym (ap node_of (no_bits_left 0 0 refl) ∙ node_itself [] refl)
