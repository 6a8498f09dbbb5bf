use Rattle.std.proofs.Common.{◌≡◌, ◌+◌, ◌-◌, ◌*◌, ◌/◌, ◌%◌, ◌<◌, ◌≤◌, ◌++◌, ◌∙◌, Some, true, false, take, drop, ap, sym, subst, arith, rules, slice_get}
use Rattle.std.specs.FinMap as map
use Rattle.std.specs.Option.{option_map}
use Rattle.prefix_model.specs.Keys.{KeyBits}
use Rattle.prefix_model.specs.InPlace.{is_position}
use Rattle.prefix_model.specs.Masks.{is_past, data_mask, child_mask}
use Rattle.prefix_model.specs.Positions.{data_places}
use Rattle.prefix_table.specs.Records.{node_record}
use Rattle.prefix_model.proofs.KeyPieces.{take_parts, piece_five, taken_length}
use Rattle.prefix_model.specs.NodeSearches.{IsFirstOf, StandsBelow}
use Rattle.prefix_model.proofs.Bitmaps.NodeBits.{and_set}
use Rattle.prefix_model.proofs.Walking.Chosen.{some_mapped, where_some, where_none}
use Rattle.prefix_model.proofs.Walking.FromNode.{from_node, child_found, child_none, part_short, behind_child, child_whole, key_below}
use Rattle.prefix_archive.proofs.Descents.{all_of, no_child}
use Rattle.prefix_archive.proofs.descent.+first_from.Goals.{in-Some, in-None}
use Rattle.prefix_archive.proofs.descent.+first_from.Goals as goal

pub first_of-requires-clause-depth : goal.first_of-requires-clause-depth
first_of-requires-clause-depth g t c = let f = c.requires.within in let d = c.requires.order in omega (arith, f, d)

pub first_of-requires-clause-places : goal.first_of-requires-clause-places
first_of-requires-clause-places g t c = λ b e. (and_set c.args.node.now.data_bits c.from_place-places.result.0 b e).0

pub first_of-requires-clause-children : goal.first_of-requires-clause-children
first_of-requires-clause-children g t c = λ b e. (and_set c.args.node.now.child_bits c.from_place-places.result.1 b e).0

pub returns-then-left-lt-K-clause-first : goal.returns-then-left-lt-K-clause-first
returns-then-left-lt-K-clause-first g t c =
    let m = c.args.archive.now.table in
    let r = node_record c.args.node.now in
    let w = g.P.R.Bits.WIDTH in
    let bits = g.P.R.Bits.bits c.args.key in
    let d = c.args.depth in
    let len = c.args.len in
    let p = take d bits in
    let q = take len bits in
    let s = drop d q in
    let fits = c.requires.within in
    let order = c.requires.order in
    let five = c.requires.at_five in
    let near : len < d + 5 = let l = c.if-left-lt-K.true in omega (arith, l, order) in
    let size = taken_length bits d w (g.met.P.R.Bits.length_law c.args.key) (omega (arith, fits, order)) in
    let deep : len / 5 * 5 ≡ d = omega (arith, near, order, five) in
    let here : slice_get data_places c.data_bit.result ≡ Some s = c.data_bit.ensures.place ∙ ap (λ n. Some (drop n q)) deep in
    from_node (map.get m.entries) p r.data_bits r.child_bits
    (all_of m.entries p r c.requires.node w m.spelled.width (omega (arith, size, five)))
    q c.args.inclusive s (sym (take_parts bits d len order)) (part_short bits d len order near) c.from_place-places.result.0 c.from_place-places.result.1 (c.from_place-places.ensures s here)
    (option_map (λ x. (take x.len (g.P.R.Bits.bits x.key), x.value.spelling.value)) c.first_of.result) c.first_of.ensures.first

pub child_bit-child-requires : goal.child_bit-child-requires
child_bit-child-requires g t c = let f = c.requires.within in let d = c.requires.order in let l = c.if-left-lt-K.false in omega (arith, f, d, l)

pub child_on_path-requires-clause-within : goal.child_on_path-requires-clause-within
child_on_path-requires-clause-within g t c = let f = c.requires.within in let d = c.requires.order in let l = c.if-left-lt-K.false in omega (arith, f, d, l)

pub first_from-below-requires : goal.first_from-below-requires
first_from-below-requires g t c κs within =
    let order = c.requires.order in
    let far : c.args.depth + 5 ≤ c.args.len = let l = c.if-left-lt-K.false in omega (arith, l, order) in
    let less : c.args.len - (c.args.depth + 5) < c.args.len - c.args.depth = omega (arith, far) in
    let five : (c.args.depth + 5) % 5 ≡ 0 = let e = c.requires.at_five in omega (arith, e) in
    search rules

pub returns-then-is_some-clause-first : goal.returns-then-is_some-clause-first
returns-then-is_some-clause-first g t c =
    let m = c.args.archive.now.table in
    let f = map.get m.entries in
    let r = node_record c.args.node.now in
    let w = g.P.R.Bits.WIDTH in
    let bits = g.P.R.Bits.bits c.args.key in
    let d = c.args.depth in
    let len = c.args.len in
    let p = take d bits in
    let q = take len bits in
    let i = c.args.inclusive in
    let cs = drop d (take (d + 5) bits) in
    let fits = c.requires.within in
    let order = c.requires.order in
    let at_five = c.requires.at_five in
    let whole = g.met.P.R.Bits.length_law c.args.key in
    let far : d + 5 ≤ len = let l = c.if-left-lt-K.false in omega (arith, l, order) in
    let size = taken_length bits d w whole (omega (arith, fits, order)) in
    let five = piece_five bits d (omega (arith, far, fits, whole)) in
    let below : IsFirstOf f (StandsBelow (p ++ cs) q i) (option_map (λ x. (take x.len (g.P.R.Bits.bits x.key), x.value.spelling.value)) c.match-child_on_path.below) = elim c.match-child_on_path.branch [
      | in-Some v ↦ subst (λ o. IsFirstOf f (StandsBelow (p ++ cs) q i) (option_map (λ x. (take x.len (g.P.R.Bits.bits x.key), x.value.spelling.value)) o)) (sym v.below-is)
          (subst (λ (z : KeyBits). IsFirstOf f (StandsBelow z q i) (option_map (λ x. (take x.len (g.P.R.Bits.bits x.key), x.value.spelling.value)) v.first_from-below.result)) (sym (child_whole bits d)) v.first_from-below.ensures.first)
      | in-None v ↦ subst (λ o. IsFirstOf f (StandsBelow (p ++ cs) q i) (option_map (λ x. (take x.len (g.P.R.Bits.bits x.key), x.value.spelling.value)) o)) (sym v.below-is)
          (λ k st s. no_child m.entries p r c.requires.node w m.spelled.width (omega (arith, size, at_five)) cs five (ap (is_position m.entries) (child_whole bits d) ∙ v.in-None.ensures) k st s.0)
    ] in
    where_some f (StandsBelow (p ++ cs) q i) (StandsBelow p q i)
    (child_found f p r.data_bits r.child_bits
    (all_of m.entries p r c.requires.node w m.spelled.width (omega (arith, size, at_five)))
    q i cs (behind_child bits d len far).rest (key_below bits d len far) five)
    (option_map (λ x. (take x.len (g.P.R.Bits.bits x.key), x.value.spelling.value)) c.match-child_on_path.below)
    (some_mapped (λ x. (take x.len (g.P.R.Bits.bits x.key), x.value.spelling.value)) c.match-child_on_path.below true (sym c.is_some.ensures ∙ c.if-is_some.true)) below

pub first_of-requires-2-clause-depth : goal.first_of-requires-2-clause-depth
first_of-requires-2-clause-depth g t c = let f = c.requires.within in let d = c.requires.order in omega (arith, f, d)

pub first_of-requires-2-clause-places : goal.first_of-requires-2-clause-places
first_of-requires-2-clause-places g t c = λ b e. (and_set c.args.node.now.data_bits c.lex_after_child-places.result.0 b e).0

pub first_of-requires-2-clause-children : goal.first_of-requires-2-clause-children
first_of-requires-2-clause-children g t c = λ b e. (and_set c.args.node.now.child_bits c.lex_after_child-places.result.1 b e).0

pub returns-clause-first : goal.returns-clause-first
returns-clause-first g t c =
    let m = c.args.archive.now.table in
    let f = map.get m.entries in
    let r = node_record c.args.node.now in
    let w = g.P.R.Bits.WIDTH in
    let bits = g.P.R.Bits.bits c.args.key in
    let d = c.args.depth in
    let len = c.args.len in
    let p = take d bits in
    let q = take len bits in
    let i = c.args.inclusive in
    let cs = drop d (take (d + 5) bits) in
    let fits = c.requires.within in
    let order = c.requires.order in
    let at_five = c.requires.at_five in
    let whole = g.met.P.R.Bits.length_law c.args.key in
    let far : d + 5 ≤ len = let l = c.if-left-lt-K.false in omega (arith, l, order) in
    let size = taken_length bits d w whole (omega (arith, fits, order)) in
    let five = piece_five bits d (omega (arith, far, fits, whole)) in
    let below : IsFirstOf f (StandsBelow (p ++ cs) q i) (option_map (λ x. (take x.len (g.P.R.Bits.bits x.key), x.value.spelling.value)) c.match-child_on_path.below) = elim c.match-child_on_path.branch [
      | in-Some v ↦ subst (λ o. IsFirstOf f (StandsBelow (p ++ cs) q i) (option_map (λ x. (take x.len (g.P.R.Bits.bits x.key), x.value.spelling.value)) o)) (sym v.below-is)
          (subst (λ (z : KeyBits). IsFirstOf f (StandsBelow z q i) (option_map (λ x. (take x.len (g.P.R.Bits.bits x.key), x.value.spelling.value)) v.first_from-below.result)) (sym (child_whole bits d)) v.first_from-below.ensures.first)
      | in-None v ↦ subst (λ o. IsFirstOf f (StandsBelow (p ++ cs) q i) (option_map (λ x. (take x.len (g.P.R.Bits.bits x.key), x.value.spelling.value)) o)) (sym v.below-is)
          (λ k st s. no_child m.entries p r c.requires.node w m.spelled.width (omega (arith, size, at_five)) cs five (ap (is_position m.entries) (child_whole bits d) ∙ v.in-None.ensures) k st s.0)
    ] in
    let gone = where_none f (StandsBelow (p ++ cs) q i) (option_map (λ x. (take x.len (g.P.R.Bits.bits x.key), x.value.spelling.value)) c.match-child_on_path.below)
    (some_mapped (λ x. (take x.len (g.P.R.Bits.bits x.key), x.value.spelling.value)) c.match-child_on_path.below false (sym c.is_some.ensures ∙ c.if-is_some.false)) below in
    let past = c.lex_after_child-places in
    let places_past : past.result.0 ≡ data_mask (is_past cs) = past.ensures.data_bits ∙ ap (λ z. data_mask (is_past z)) c.child_bit-child.ensures.bits in
    let children_past : past.result.1 ≡ child_mask (is_past cs) = past.ensures.child_bits ∙ ap (λ z. child_mask (is_past z)) c.child_bit-child.ensures.bits in
    child_none f p r.data_bits r.child_bits
    (all_of m.entries p r c.requires.node w m.spelled.width (omega (arith, size, at_five)))
    q i cs (behind_child bits d len far).rest (key_below bits d len far) five gone past.result.0 past.result.1 places_past children_past
    (option_map (λ x. (take x.len (g.P.R.Bits.bits x.key), x.value.spelling.value)) c.first_of-2.result) c.first_of-2.ensures.first
