use Rattle.std.proofs.Common.{◌≡◌, ◌+◌, ◌-◌, ◌<◌, ◌≤◌, ◌++◌, ◌∙◌, true, false, Some, bit_and, refl, ap, sym, subst, arith, rules, length, take, drop, slice_get}
use Rattle.std.specs.Int.{bit_at}
use Rattle.std.specs.Option.{option_map}
use Rattle.std.specs.FinMap.{contains_key}
use Rattle.prefix_model.specs.Positions.{data_places}
use Rattle.prefix_model.specs.Masks.{is_past, data_mask, child_mask}
use Rattle.prefix_model.specs.Walks.{begins_with}
use Rattle.prefix_model.specs.NodeSearches.{IsChosen, StandsBelow}
use Rattle.prefix_model.proofs.Bitmaps.NodeBits.{and_set}
use Rattle.prefix_model.proofs.Walking.Chosen.{some_mapped}
use Rattle.prefix_model.proofs.Walking.FromNode.{from_node, child_found, child_none, behind_child}
use Rattle.prefix_model.specs.Views.{node, held, moved, data_below, children_below, IsOnWay}
use Rattle.prefix_view.specs.Iteration.{IsFirstSeen}
use Rattle.prefix_view.proofs.KeptPositions.{towards_extends, towards_child, towards_deeper}
use Rattle.prefix_view.proofs.KeyParts.{key_here, depth_of_key, key_short, child_front, child_five, child_at_five, child_is, key_below}
use Rattle.prefix_view.proofs.NodeViews.{all_seen, no_child, seen_lifted, seen_some, seen_none, stands_in_child}
use Rattle.prefix_view.proofs.walk.+first_from.Goals.{in-Some, in-None}
use Rattle.prefix_view.proofs.walk.+first_from.Goals as goal

pub first_of-requires-clause-places : goal.first_of-requires-clause-places
first_of-requires-clause-places g t c = λ b e. ap (λ n. bit_at n b) (sym c.data_bitmap.ensures) ∙ (and_set c.data_bitmap.result c.from_place-places.result.0 b e).0

pub first_of-requires-clause-children : goal.first_of-requires-clause-children
first_of-requires-clause-children g t c = λ b e. ap (λ n. bit_at n b) (sym c.child_bitmap.ensures) ∙ (and_set c.child_bitmap.result c.from_place-places.result.1 b e).0

pub returns-then-len-depth : goal.returns-then-len-depth
returns-then-len-depth g t c =
    let v = g.V.TrieView.seen c.args.view in
    let bits = g.V.P.R.Bits.bits c.args.key in
    let len = c.args.len in
    let d = c.depth-depth.result in
    let q = take len bits in
    let r = drop d q in
    let i = c.args.inclusive in
    let db = c.data_bitmap.result in
    let cb = c.child_bitmap.result in
    let places = c.from_place-places.result.0 in
    let children = c.from_place-places.result.1 in
    let near = c.if-len-depth.true in
    let here : slice_get data_places c.data_bit.result ≡ Some r = c.data_bit.ensures.place ∙ ap (λ n. Some (drop n q)) (depth_of_key v bits len d c.depth-depth.ensures c.requires.extends near) in
    let found = option_map g.V.TrieView.seen c.first_of.result in
    seen_lifted v (IsChosen (node v) (bit_and db places) (bit_and cb children)) (StandsBelow (node v) q i) found
    (from_node (held v) (node v) db cb (all_seen v _ (g.met.V.TrieView.place_law c.args.view) db cb c.data_bitmap.ensures c.child_bitmap.ensures) q i r
    (key_here v q d c.depth-depth.ensures c.requires.extends) (key_short v bits len d c.depth-depth.ensures c.requires.extends near) places children (c.from_place-places.ensures r here))
    c.first_of.ensures

pub child_towards-requires-clause-extends : goal.child_towards-requires-clause-extends
child_towards-requires-clause-extends g t c =
    let v = g.V.TrieView.seen c.args.view in
    let bits = g.V.P.R.Bits.bits c.args.key in
    let way : IsOnWay v v (take c.args.len bits) = record { entries = refl; kept = refl; above = c.requires.extends } in
    towards_extends _ v v (g.met.V.TrieView.place_law c.args.view) bits c.args.len way

pub first_from-below-requires : goal.first_from-below-requires
first_from-below-requires g t c κs within =
    let v = g.V.TrieView.seen c.args.view in
    let w = g.V.TrieView.seen c.in-Some.next in
    let bits = g.V.P.R.Bits.bits c.args.key in
    let way : IsOnWay v v (take c.args.len bits) = record { entries = refl; kept = refl; above = c.requires.extends } in
    let at = g.met.V.TrieView.place_law c.args.view in
    let all = g.met.V.P.R.Bits.length_law c.args.key in
    let width = c.requires.width in
    let far = c.if-len-depth.false in
    let depth = c.depth-depth.ensures in
    let inside : length (node v) + 5 ≤ c.args.len = omega (arith, far, depth) in
    let less : c.args.len - length (node w) < c.args.len - length (node v) = towards_deeper _ v v at bits c.args.len way w inside (omega (arith, all, width)) (c.in-Some.ensures.1) in
    let extends : begins_with w.place (take c.args.len bits) ≡ true = (towards_child _ v v at bits c.args.len way w inside (c.in-Some.ensures.1)).above in
    search rules

pub returns-then-is_some : goal.returns-then-is_some
returns-then-is_some g t c =
    let v = g.V.TrieView.seen c.args.view in
    let bits = g.V.P.R.Bits.bits c.args.key in
    let len = c.args.len in
    let q = take len bits in
    let i = c.args.inclusive in
    let d = c.depth-depth.result in
    let cs = drop d (take (d + 5) bits) in
    let at = g.met.V.TrieView.place_law c.args.view in
    let all = g.met.V.P.R.Bits.length_law c.args.key in
    let width = c.requires.width in
    let far = c.if-len-depth.false in
    let inside : d + 5 ≤ len = omega (arith, far) in
    let within : len ≤ length bits = omega (arith, all, width) in
    let five = child_five v bits len d c.depth-depth.ensures c.requires.extends inside within in
    let at_five = child_at_five v bits len d c.depth-depth.ensures c.requires.extends inside within in
    let child = child_is v bits len d c.depth-depth.ensures c.requires.extends inside within in
    let front = child_front v bits len d c.depth-depth.ensures c.requires.extends inside within in
    let below : IsFirstSeen v (StandsBelow (node v ++ cs) q i) (option_map g.V.TrieView.seen c.match-child_towards.below) = elim c.match-child_towards.branch [
      | in-Some w ↦ subst (λ o. IsFirstSeen v (StandsBelow (node v ++ cs) q i) (option_map g.V.TrieView.seen o)) (sym w.below-is)
          (stands_in_child v (node v ++ cs) front at_five (g.V.TrieView.seen w.in-Some.next) (w.in-Some.ensures.1 ∙ ap (moved v) child) q i (option_map g.V.TrieView.seen w.first_from-below.result) w.first_from-below.ensures)
      | in-None w ↦ subst (λ o. IsFirstSeen v (StandsBelow (node v ++ cs) q i) (option_map g.V.TrieView.seen o)) (sym w.below-is)
          (no_child v _ at (node v ++ cs) at_five (ap (contains_key v.kept) (sym child) ∙ w.in-None.ensures) q i)
    ] in
    seen_some v (StandsBelow (node v ++ cs) q i) (StandsBelow (node v) q i) (option_map g.V.TrieView.seen c.match-child_towards.below)
    (some_mapped g.V.TrieView.seen c.match-child_towards.below true (sym c.is_some.ensures ∙ c.if-is_some.true))
    (child_found (held v) (node v) (data_below v) (children_below v) (all_seen v _ at (data_below v) (children_below v) refl refl)
    q i cs (behind_child bits d len inside).rest (key_below v bits len d c.depth-depth.ensures c.requires.extends inside within) five)
    below

pub first_of-requires-2-clause-places : goal.first_of-requires-2-clause-places
first_of-requires-2-clause-places g t c = λ b e. ap (λ n. bit_at n b) (sym c.data_bitmap-2.ensures) ∙ (and_set c.data_bitmap-2.result c.lex_after_child-places.result.0 b e).0

pub first_of-requires-2-clause-children : goal.first_of-requires-2-clause-children
first_of-requires-2-clause-children g t c = λ b e. ap (λ n. bit_at n b) (sym c.child_bitmap-2.ensures) ∙ (and_set c.child_bitmap-2.result c.lex_after_child-places.result.1 b e).0

pub returns : goal.returns
returns g t c =
    let v = g.V.TrieView.seen c.args.view in
    let bits = g.V.P.R.Bits.bits c.args.key in
    let len = c.args.len in
    let q = take len bits in
    let i = c.args.inclusive in
    let d = c.depth-depth.result in
    let cs = drop d (take (d + 5) bits) in
    let at = g.met.V.TrieView.place_law c.args.view in
    let all = g.met.V.P.R.Bits.length_law c.args.key in
    let width = c.requires.width in
    let far = c.if-len-depth.false in
    let inside : d + 5 ≤ len = omega (arith, far) in
    let within : len ≤ length bits = omega (arith, all, width) in
    let five = child_five v bits len d c.depth-depth.ensures c.requires.extends inside within in
    let at_five = child_at_five v bits len d c.depth-depth.ensures c.requires.extends inside within in
    let child = child_is v bits len d c.depth-depth.ensures c.requires.extends inside within in
    let front = child_front v bits len d c.depth-depth.ensures c.requires.extends inside within in
    let below : IsFirstSeen v (StandsBelow (node v ++ cs) q i) (option_map g.V.TrieView.seen c.match-child_towards.below) = elim c.match-child_towards.branch [
      | in-Some w ↦ subst (λ o. IsFirstSeen v (StandsBelow (node v ++ cs) q i) (option_map g.V.TrieView.seen o)) (sym w.below-is)
          (stands_in_child v (node v ++ cs) front at_five (g.V.TrieView.seen w.in-Some.next) (w.in-Some.ensures.1 ∙ ap (moved v) child) q i (option_map g.V.TrieView.seen w.first_from-below.result) w.first_from-below.ensures)
      | in-None w ↦ subst (λ o. IsFirstSeen v (StandsBelow (node v ++ cs) q i) (option_map g.V.TrieView.seen o)) (sym w.below-is)
          (no_child v _ at (node v ++ cs) at_five (ap (contains_key v.kept) (sym child) ∙ w.in-None.ensures) q i)
    ] in
    let gone = seen_none v (StandsBelow (node v ++ cs) q i) (option_map g.V.TrieView.seen c.match-child_towards.below) (some_mapped g.V.TrieView.seen c.match-child_towards.below false (sym c.is_some.ensures ∙ c.if-is_some.false)) below in
    let past = c.lex_after_child-places in
    let db = c.data_bitmap-2.result in
    let cb = c.child_bitmap-2.result in
    let places_past : past.result.0 ≡ data_mask (is_past cs) = past.ensures.data_bits ∙ ap (λ z. data_mask (is_past z)) c.child_bit.ensures.bits in
    let children_past : past.result.1 ≡ child_mask (is_past cs) = past.ensures.child_bits ∙ ap (λ z. child_mask (is_past z)) c.child_bit.ensures.bits in
    seen_lifted v (IsChosen (node v) (bit_and db past.result.0) (bit_and cb past.result.1)) (StandsBelow (node v) q i) (option_map g.V.TrieView.seen c.first_of-2.result)
    (child_none (held v) (node v) db cb (all_seen v _ at db cb c.data_bitmap-2.ensures c.child_bitmap-2.ensures)
    q i cs (behind_child bits d len inside).rest (key_below v bits len d c.depth-depth.ensures c.requires.extends inside within) five gone past.result.0 past.result.1 places_past children_past)
    c.first_of-2.ensures
