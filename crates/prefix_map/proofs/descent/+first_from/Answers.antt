use Rattle.std.proofs.Common.{◌≡◌, ◌+◌, ◌-◌, ◌*◌, ◌/◌, ◌<◌, ◌≤◌, ◌++◌, ◌∙◌, Some, true, false, take, drop, ap, refl, sym, subst, arith, rules, slice_get}
use Rattle.std.specs.FinMap as map
use Rattle.std.specs.Option.{option_map}
use Rattle.prefix_model.specs.Keys.{KeyBits}
use Rattle.prefix_model.specs.Masks.{is_past, data_mask, child_mask}
use Rattle.prefix_model.specs.Positions.{data_places, data_bits, child_bits}
use Rattle.prefix_model.specs.Walks.{begins_with}
use Rattle.prefix_model.specs.TableViews.{position_at}
use Rattle.prefix_model.proofs.KeyPieces.{take_parts, piece_five, taken_length}
use Rattle.prefix_map.specs.Searches.{entry_from}
use Rattle.prefix_model.specs.NodeSearches.{IsFirstOf, StandsBelow}
use Rattle.prefix_model.proofs.Bitmaps.NodeBits.{and_set}
use Rattle.prefix_model.proofs.Walking.Chosen.{some_mapped, where_some, where_none}
use Rattle.prefix_model.proofs.Walking.FromNode.{from_node, child_found, child_none, part_short, behind_child, child_whole, key_below}
use Rattle.prefix_map.proofs.Descents.{there, at_five, all_of, next_none, node_bit}
use Rattle.prefix_map.proofs.descent.+first_from.Goals.{in-Some, in-None}
use Rattle.prefix_map.proofs.descent.+first_from.Goals as goal

pub first_of-requires-clause-depth : goal.first_of-requires-clause-depth
first_of-requires-clause-depth g t c = let f = c.requires.position.fits in let d = c.requires.depth in omega (arith, f, d)

pub first_of-requires-clause-places : goal.first_of-requires-clause-places
first_of-requires-clause-places g t c = λ b e.
    node_bit c.args.table.now (take c.args.depth (g.R.Bits.bits c.args.position.now.key)) c.args.at c.requires.named c.node-bits.result.data_bits b c.node-bits.ensures.«data»
    (and_set c.node-bits.result.data_bits c.from_place-places.result.0 b e).0

pub returns-then-left-lt-K-clause-first : goal.returns-then-left-lt-K-clause-first
returns-then-left-lt-K-clause-first g t c =
    let view = c.args.table.now in
    let f = map.get view.entries in
    let bits = g.R.Bits.bits c.args.position.now.key in
    let d = c.args.depth in
    let len = c.args.position.now.len in
    let p = take d bits in
    let q = take len bits in
    let r = drop d q in
    let fits = c.requires.position.fits in
    let order = c.requires.depth in
    let near : len < d + 5 = let l = c.if-left-lt-K.true in omega (arith, l, order) in
    let size = taken_length bits d g.R.Bits.WIDTH (g.met.R.Bits.length_law c.args.position.now.key) (omega (arith, fits, order)) in
    let five = at_five view p c.args.at c.requires.named c.requires.holds in
    let deep : len / 5 * 5 ≡ d = omega (arith, near, order, size, five) in
    let here : slice_get data_places c.data_bit.result ≡ Some r = c.data_bit.ensures.place ∙ ap (λ n. Some (drop n q)) deep in
    from_node f p c.node-bits.result.data_bits c.node-bits.result.child_bits
    (all_of view p c.args.at c.requires.named c.requires.holds c.node-bits.result.data_bits c.node-bits.result.child_bits c.node-bits.ensures.«data» c.node-bits.ensures.children)
    q c.args.position.now.inclusive r (sym (take_parts bits d len order)) (part_short bits d len order near) c.from_place-places.result.0 c.from_place-places.result.1 (c.from_place-places.ensures r here)
    (option_map (entry_from g.R.Bits.bits 0) c.first_of.result) c.first_of.ensures.first

pub child_bit-child-requires : goal.child_bit-child-requires
child_bit-child-requires g t c = let f = c.requires.position.fits in let d = c.requires.depth in let l = c.if-left-lt-K.false in omega (arith, f, d, l)

pub first_from-below-requires : goal.first_from-below-requires
first_from-below-requires g t c κs within =
    let view = c.args.table.now in
    let bits = g.R.Bits.bits c.args.position.now.key in
    let d = c.args.depth in
    let p = take d bits in
    let order = c.requires.depth in
    let far : d + 5 ≤ c.args.position.now.len = let l = c.if-left-lt-K.false in omega (arith, l, order) in
    let less : c.args.position.now.len - (d + 5) < c.args.position.now.len - d = omega (arith, far) in
    let named : map.get view.places c.in-Some.next ≡ Some (take (d + 5) bits) =
    c.in-Some.ensures ∙ (λ j. Some (there view p c.args.at c.requires.named j ++ c.child_bit-child.ensures.bits j)) ∙ ap Some (child_whole bits d) in
    search rules

pub returns-then-is_some-clause-first : goal.returns-then-is_some-clause-first
returns-then-is_some-clause-first g t c =
    let view = c.args.table.now in
    let f = map.get view.entries in
    let bits = g.R.Bits.bits c.args.position.now.key in
    let d = c.args.depth in
    let len = c.args.position.now.len in
    let p = take d bits in
    let q = take len bits in
    let i = c.args.position.now.inclusive in
    let cs = drop d (take (d + 5) bits) in
    let entry = entry_from g.R.Bits.bits 0 in
    let fits = c.requires.position.fits in
    let order = c.requires.depth in
    let whole = g.met.R.Bits.length_law c.args.position.now.key in
    let far : d + 5 ≤ len = let l = c.if-left-lt-K.false in omega (arith, l, order) in
    let size = taken_length bits d g.R.Bits.WIDTH whole (omega (arith, fits, order)) in
    let five = piece_five bits d (omega (arith, far, fits, whole)) in
    let below : IsFirstOf f (StandsBelow (p ++ cs) q i) (option_map entry c.match-child.below) = elim c.match-child.branch [
      | in-Some w ↦ subst (λ o. IsFirstOf f (StandsBelow (p ++ cs) q i) (option_map entry o)) (sym w.below-is)
          (subst (λ (z : KeyBits). IsFirstOf f (StandsBelow z q i) (option_map entry w.first_from-below.result)) (sym (child_whole bits d)) w.first_from-below.ensures.first)
      | in-None w ↦ subst (λ o. IsFirstOf f (StandsBelow (p ++ cs) q i) (option_map entry o)) (sym w.below-is)
          (λ k st s. next_none view p c.args.at c.requires.named c.requires.holds d size c.child_bit-child.result w.in-None.ensures k st (ap (λ z. begins_with (p ++ z) k) c.child_bit-child.ensures.bits ∙ s.0))
    ] in
    where_some f (StandsBelow (p ++ cs) q i) (StandsBelow p q i)
    (child_found f p (data_bits f (position_at view c.args.at)) (child_bits (map.contains_key view.kept) (position_at view c.args.at))
    (all_of view p c.args.at c.requires.named c.requires.holds _ _ refl refl)
    q i cs (behind_child bits d len far).rest (key_below bits d len far) five)
    (option_map entry c.match-child.below) (some_mapped entry c.match-child.below true (sym c.is_some.ensures ∙ c.if-is_some.true)) below

pub first_of-requires-2-clause-depth : goal.first_of-requires-2-clause-depth
first_of-requires-2-clause-depth g t c = let f = c.requires.position.fits in let d = c.requires.depth in omega (arith, f, d)

pub first_of-requires-2-clause-places : goal.first_of-requires-2-clause-places
first_of-requires-2-clause-places g t c = λ b e.
    node_bit c.args.table.now (take c.args.depth (g.R.Bits.bits c.args.position.now.key)) c.args.at c.requires.named c.node-bits-2.result.data_bits b c.node-bits-2.ensures.«data»
    (and_set c.node-bits-2.result.data_bits c.lex_after_child-places.result.0 b e).0

pub returns-clause-first : goal.returns-clause-first
returns-clause-first g t c =
    let view = c.args.table.now in
    let f = map.get view.entries in
    let bits = g.R.Bits.bits c.args.position.now.key in
    let d = c.args.depth in
    let len = c.args.position.now.len in
    let p = take d bits in
    let q = take len bits in
    let i = c.args.position.now.inclusive in
    let cs = drop d (take (d + 5) bits) in
    let entry = entry_from g.R.Bits.bits 0 in
    let fits = c.requires.position.fits in
    let order = c.requires.depth in
    let whole = g.met.R.Bits.length_law c.args.position.now.key in
    let far : d + 5 ≤ len = let l = c.if-left-lt-K.false in omega (arith, l, order) in
    let size = taken_length bits d g.R.Bits.WIDTH whole (omega (arith, fits, order)) in
    let five = piece_five bits d (omega (arith, far, fits, whole)) in
    let below : IsFirstOf f (StandsBelow (p ++ cs) q i) (option_map entry c.match-child.below) = elim c.match-child.branch [
      | in-Some w ↦ subst (λ o. IsFirstOf f (StandsBelow (p ++ cs) q i) (option_map entry o)) (sym w.below-is)
          (subst (λ (z : KeyBits). IsFirstOf f (StandsBelow z q i) (option_map entry w.first_from-below.result)) (sym (child_whole bits d)) w.first_from-below.ensures.first)
      | in-None w ↦ subst (λ o. IsFirstOf f (StandsBelow (p ++ cs) q i) (option_map entry o)) (sym w.below-is)
          (λ k st s. next_none view p c.args.at c.requires.named c.requires.holds d size c.child_bit-child.result w.in-None.ensures k st (ap (λ z. begins_with (p ++ z) k) c.child_bit-child.ensures.bits ∙ s.0))
    ] in
    let gone = where_none f (StandsBelow (p ++ cs) q i) (option_map entry c.match-child.below) (some_mapped entry c.match-child.below false (sym c.is_some.ensures ∙ c.if-is_some.false)) below in
    let past = c.lex_after_child-places in
    let places_past : past.result.0 ≡ data_mask (is_past cs) = past.ensures.data_bits ∙ ap (λ z. data_mask (is_past z)) c.child_bit-child.ensures.bits in
    let children_past : past.result.1 ≡ child_mask (is_past cs) = past.ensures.child_bits ∙ ap (λ z. child_mask (is_past z)) c.child_bit-child.ensures.bits in
    child_none f p c.node-bits-2.result.data_bits c.node-bits-2.result.child_bits
    (all_of view p c.args.at c.requires.named c.requires.holds c.node-bits-2.result.data_bits c.node-bits-2.result.child_bits c.node-bits-2.ensures.«data» c.node-bits-2.ensures.children)
    q i cs (behind_child bits d len far).rest (key_below bits d len far) five gone past.result.0 past.result.1 places_past children_past
    (option_map entry c.first_of-2.result) c.first_of-2.ensures.first
