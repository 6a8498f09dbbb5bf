-- What the calls of a live view read of its table.
use Rattle.std.specs.Prelude.{◌≡◌, ℕ, ◌+◌, ◌-◌, ◌*◌, ◌/◌, ◌^◌, ◌<◌, ◌≤◌, true, [], ◌++◌, length, take, Some, IsSome, is_some, IsBitSet}
use Rattle.std.specs.Option.{unwrap_or}
use Rattle.std.specs.FinMap as map_of
use Rattle.std.specs.Coded.{coded_bool, coded_list, le_prop}
use Rattle.std.proofs.Common.{refl, sym, ap, ◌∙◌, subst, arith, length-append, length-take}
use Rattle.std.proofs.Math.Logic.{∥∥₁_elim}
use base.Stored.{Coded-set}
use lib.Pow.{pow_mono}
use Rattle.prefix_model.specs.Keys.{KeyBits, low_bits, number}
use Rattle.prefix_model.specs.Masks.{begins_with}
use Rattle.prefix_model.specs.Walks.{node_of}
use Rattle.prefix_model.specs.TableViews.{TableView, position_at}
use Rattle.prefix_model.specs.Views.{children_below, node}
use Rattle.prefix_model.proofs.KeyNumbers.{length-low_bits}
use Rattle.prefix_model.proofs.Nodes.{node_itself, node_above}
use Rattle.prefix_model.proofs.Viewing.ViewBits.{child_limit, child_kept, same_node}
use Rattle.prefix_view.specs.LiveViews.{IsTrieRef, seen_at}
use Rattle.prefix_view.specs.LiveLaws.{live_keeps}
use Rattle.prefix_view.proofs.LiveKeys.{node_length, child_place, child_small}

module _ {T : Type 0} (w : ℕ) (t : TableView T) (at n len : ℕ) (placed : ∥ IsTrieRef w t at n len ∥₁) where
  pub live_small : n < 2 ^ len
  live_small = ∥∥₁_elim placed le_prop (λ p. p.small)

  pub live_is_named : (name : ℕ) → name ≡ at → IsSome (map_of.get t.places name)
  live_is_named name same = ∥∥₁_elim placed (Coded-set coded_bool _ _) (λ p. ap (λ a. is_some (map_of.get t.places a)) same ∙ ap is_some p.named)

  pub live_position : (name : ℕ) → name ≡ at → position_at t name ≡ node_of (low_bits len n)
  live_position name same = ∥∥₁_elim placed (Coded-set (coded_list coded_bool) _ _) (λ p. ap (position_at t) same ∙ ap (λ o. unwrap_or o []) p.named)

pub live_depth : (n len : ℕ) → len / 5 * 5 ≡ length (node_of (low_bits len n))
live_depth n len = sym (node_length (low_bits len n) ∙ ap (λ k. k / 5 * 5) (length-low_bits len n))

-- ---- the child of a live view

module _ {T : Type 0} (w : ℕ) (t : TableView T) (at n len : ℕ) (placed : ∥ IsTrieRef w t at n len ∥₁) where
  child_within : (bit : ℕ) → map_of.contains_key t.kept (node_of (low_bits len n) ++ low_bits 5 bit) ≡ true → length (node_of (low_bits len n)) + 5 ≤ w
  child_within bit k =
      let l = (live_keeps w t at n len placed).kept_width (node_of (low_bits len n) ++ low_bits 5 bit) k in
      let a = length-append (node_of (low_bits len n)) (low_bits 5 bit) in
      let b = length-low_bits 5 bit in
      omega (arith, l, a, b)

  pub child_fits : (d c bit : ℕ) → d ≡ length (node_of (low_bits len n)) → c ≡ bit → IsBitSet (children_below (seen_at t n len)) bit → w ≤ 128 → n / 2 ^ (len - d) * 32 + c < 2 ^ 128
  child_fits d c bit e f set wide =
      let p = low_bits len n in
      let above = node_above p in
      let long = length-low_bits len n in
      let within = child_within bit (child_kept (seen_at t n len) bit set) in
      let slot = child_limit (seen_at t n len) bit set in
      let small = child_small len n d c _ (omega (arith, above, long, e)) (live_small w t at n len placed) refl (omega (arith, slot, f)) in
      let mono = pow_mono {i = d + 5} {j = 128} (omega (arith, within, e, wide)) in
      omega (arith, small, mono)

  pub child_ref : (name d d' c bit child number : ℕ) → name ≡ at → number ≡ child → d ≡ length (node_of (low_bits len n)) → d' ≡ length (node_of (low_bits len n)) → c ≡ bit → IsBitSet (children_below (seen_at t n len)) bit
      → map_of.get t.places child ≡ Some (position_at t name ++ low_bits 5 bit) → IsTrieRef w t number (n / 2 ^ (len - d) * 32 + c) (d' + 5)
  child_ref name d d' c bit child number same same_child e e' f set named =
      let p = low_bits len n in
      let above = node_above p in
      let long = length-low_bits len n in
      let slot = child_limit (seen_at t n len) bit set in
      let kept = child_kept (seen_at t n len) bit set in
      let place = child_place len n d d' c bit _ e e' f slot refl in
      let q = node_of p ++ low_bits 5 bit in
      let five = (live_keeps w t at n len placed).lengths q kept in
      let node : node_of (low_bits (d' + 5) (n / 2 ^ (len - d) * 32 + c)) ≡ q = ap node_of place ∙ node_itself q five in
      let within = child_within bit kept in
      let small = child_small len n d c _ (omega (arith, above, long, e)) (live_small w t at n len placed) refl (omega (arith, slot, f)) in
      record {
        keeps = live_keeps w t at n len placed;
        within = omega (arith, within, e');
        small = subst (λ k. n / 2 ^ (len - d) * 32 + c < 2 ^ (k + 5)) (e ∙ sym e') small;
        named = ap (map_of.get t.places) same_child ∙ named ∙ ap (λ k. Some (k ++ low_bits 5 bit)) (live_position w t at n len placed name same) ∙ ap (λ k. Some k) (sym node);
        kept = ap (map_of.contains_key t.kept) node ∙ kept;
      }

module _ {T : Type 0} (w : ℕ) (t : TableView T) (at n len : ℕ) where
  pub moved_ref : (bits : KeyBits) (m to : ℕ) → begins_with (low_bits len n) (take to bits) ≡ true → to < length (node_of (low_bits len n)) + 5 → to ≤ w → low_bits to m ≡ take to bits → m < 2 ^ to
      → IsTrieRef w t at n len → IsTrieRef w t at m to
  moved_ref bits m to front near within same small r =
      let long = length-take to bits in
      let node : node_of (low_bits to m) ≡ node_of (low_bits len n) = ap node_of same ∙ same_node (low_bits len n) (take to bits) front (omega (arith, near, long)) in
      record {
        keeps = r.keeps;
        within = within;
        small = small;
        named = r.named ∙ ap (λ k. Some k) (sym node);
        kept = ap (map_of.contains_key t.kept) node ∙ r.kept;
      }
