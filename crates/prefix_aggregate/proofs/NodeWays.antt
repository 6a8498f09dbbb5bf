-- The way down to a key, from node to node.
use Rattle.std.proofs.Common.{◌≡◌, ℕ, ◌+◌, ◌-◌, ◌≤◌, Bool, true, false, ◌++◌, length, take, drop, replicate, None, sym, ap, ◌∙◌, arith, append_assoc, length-take, length-drop}
use Rattle.std.specs.Prelude.{◌↔◌, is_some, IsTrue}
use Rattle.std.specs.FinMap as map
use Rattle.std.proofs.lemmas.List.{length-replicate, drop-append-le}
use Rattle.prefix_model.specs.Keys.{KeyBits, low_bits}
use Rattle.prefix_model.specs.Tables.{answer}
use Rattle.prefix_model.specs.Aggregates.{above_under}
use Rattle.prefix_model.specs.Coverage.{IsCovered}
use Rattle.prefix_model.specs.TableViews.{TableView, stored_from}
use Rattle.prefix_model.proofs.KeyPieces.{take_parts}
use Rattle.prefix_model.specs.Places.{answers_from, CoversBehind}
use Rattle.prefix_model.proofs.Counting.NodeCoverage.{behind_clear, behind_set}
use Rattle.prefix_model.proofs.Counting.NodeViews.{slot_stored, answers_none}

-- a part of a key, from a node on
part_split : (xs : KeyBits) (d n len : ℕ) → d ≤ n → n ≤ len → len ≤ length xs → drop d (take len xs) ≡ drop d (take n xs) ++ drop n (take len xs)
part_split xs d n len order within short =
    let l = length-take n xs in
    let inside : d ≤ length (take n xs) = omega (arith, l) in
    ap (drop d) (sym (take_parts xs n len within)) ∙ drop-append-le d (take n xs) (drop n (take len xs)) inside

module _ {T : Type 0} (view : TableView T) (bits : KeyBits) (w d len : ℕ) (above : (k : KeyBits) → answer view.entries (take d bits ++ k) ≡ answers_from view (take d bits) None k) (order : d ≤ len) (within : len ≤ w) (whole : w ≡ length bits) where
  -- an address that goes on from the key, by the node
  by_node : (k : KeyBits) → answer view.entries (take len bits ++ k) ≡ answers_from view (take d bits) None (drop d (take len bits) ++ k)
  by_node k =
      ap (λ s. answer view.entries (s ++ k)) (sym (take_parts bits d len order)) ∙ ap (answer view.entries) (append_assoc (take d bits) (drop d (take len bits)) k)
      ∙ above (drop d (take len bits) ++ k)

  -- the key ends in the node
  pub way_ends : (t : Bool) → IsTrue t ↔ CoversBehind view (take d bits) (w - d) (drop d (take len bits)) → IsTrue t ↔ IsCovered w view.entries (take len bits)
  way_ends t h =
      let a = length-take len bits in
      let b = length-drop d (take len bits) in
      (λ yes k z. ap is_some (by_node k) ∙ h.0 yes k (omega (arith, a, b, z, whole)), λ all. h.1 (λ k z. sym (ap is_some (by_node k)) ∙ all k (omega (arith, a, b, z, whole))))

  module _ (slot : ℕ) (deep : d + 5 ≤ len) (part : low_bits 5 slot ≡ drop d (take (d + 5) bits)) where
    by_slot : (k : KeyBits) → answer view.entries (take len bits ++ k) ≡ answers_from view (take d bits) None (low_bits 5 slot ++ (drop (d + 5) (take len bits) ++ k))
    by_slot k =
        by_node k
        ∙ ap (λ s. answers_from view (take d bits) None (s ++ k)) (part_split bits d (d + 5) len (omega arith) deep (omega arith) ∙ ap (λ s. s ++ drop (d + 5) (take len bits)) (sym part))
        ∙ ap (answers_from view (take d bits) None) (append_assoc (low_bits 5 slot) (drop (d + 5) (take len bits)) k)

    -- a value stands above the slot
    pub way_covered : is_some (above_under None (stored_from view (take d bits)) (low_bits 5 slot)) ≡ true → IsCovered w view.entries (take len bits)
    way_covered some k z = ap is_some (by_slot k) ∙ behind_set (stored_from view (take d bits)) (low_bits 5 slot) (drop (d + 5) (take len bits) ++ k) some

    -- nothing is stored above the slot, and nothing from it on
    pub way_gone : above_under None (stored_from view (take d bits)) (low_bits 5 slot) ≡ None → ((q : KeyBits) → stored_from view (take d bits ++ low_bits 5 slot) q ≡ None) → IsCovered w view.entries (take len bits) → ⊥
    way_gone clear gone all =
        let n : ℕ = w - len in
        let a = length-take len bits in
        let z = length-replicate n false in
        let some = all (replicate n false) (omega (arith, a, z, whole)) in
        let k : KeyBits = drop (d + 5) (take len bits) ++ replicate n false in
        let none = by_slot (replicate n false) ∙ behind_clear (stored_from view (take d bits)) (low_bits 5 slot) k clear
        ∙ (λ j. sym (slot_stored view (take d bits) slot) j k) ∙ answers_none view (take d bits ++ low_bits 5 slot) None gone k in
        absurd (let e = sym some ∙ ap is_some none in cc)

    -- the key of the next node
    pub next_node : take d bits ++ low_bits 5 slot ≡ take (d + 5) bits
    next_node = ap (λ s. take d bits ++ s) part ∙ take_parts bits d (d + 5) (omega arith)

    pub way_on : above_under None (stored_from view (take d bits)) (low_bits 5 slot) ≡ None → (k : KeyBits) → answer view.entries (take (d + 5) bits ++ k) ≡ answers_from view (take (d + 5) bits) None k
    way_on clear k =
        ap (λ s. answer view.entries (s ++ k)) (sym next_node) ∙ ap (answer view.entries) (append_assoc (take d bits) (low_bits 5 slot) k)
        ∙ above (low_bits 5 slot ++ k)
        ∙ behind_clear (stored_from view (take d bits)) (low_bits 5 slot) k clear
        ∙ (λ j. sym (slot_stored view (take d bits) slot) j k)
        ∙ ap (λ s. answers_from view s None k) next_node
