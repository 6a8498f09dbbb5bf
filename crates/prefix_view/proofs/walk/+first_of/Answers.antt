use Rattle.std.proofs.Common.{◌≡◌, ◌+◌, ◌-◌, ◌*◌, ◌<◌, ◌++◌, ◌∙◌, ℕ, true, false, bit_and, ap, sym, arith, rules, length}
use Rattle.std.specs.Int.{bit_at}
use Rattle.std.specs.Option.{option_map}
use lib.Count.{count_trailing_zeros}
use Rattle.prefix_model.specs.Keys.{low_bits}
use Rattle.prefix_model.specs.Masks.{is_past}
use Rattle.prefix_model.specs.Walks.{begins_with}
use Rattle.prefix_model.specs.NodeSearches.{IsChosen}
use Rattle.prefix_model.proofs.Bitmaps.NodeBits.{and_set, mask_small, fewer_with, own_range, lowest_child, below_child_bit, none_lower}
use Rattle.prefix_model.proofs.MaskBits.{child_slot}
use Rattle.prefix_model.proofs.Walking.Chosen.{no_children, before_found, below_found, below_none, some_mapped}
use Rattle.prefix_model.specs.Views.{node, held, data_below, children_below}
use Rattle.prefix_view.specs.Iteration.{IsFirstSeen}
use Rattle.prefix_model.proofs.Bitmaps.PlaceBits.{set_from}
use Rattle.prefix_view.proofs.NodeViews.{child_held, child_five, child_deep, seen_lifted, seen_some, seen_none, seen_in_child}
use Rattle.prefix_view.proofs.walk.+first_of.Goals as goal

pub returns-then-children-eq0 : goal.returns-then-children-eq0
returns-then-children-eq0 g t c =
    let v = g.V.TrieView.seen c.args.view in
    seen_lifted v (IsChosen (node v) c.args.places 0) (IsChosen (node v) c.args.places c.args.children) (option_map g.V.TrieView.seen c.first_at_places.result)
    (no_children (held v) (node v) c.args.places c.args.children c.if-children-eq0.true) c.first_at_places.ensures

pub first_at_places-before-requires : goal.first_at_places-before-requires
first_at_places-before-requires g t c = λ b e. c.requires.places b (and_set c.args.places (4294967295 - c.lex_after_child-places_after.result.0) b e).0

pub returns-then-is_some : goal.returns-then-is_some
returns-then-is_some g t c =
    let v = g.V.TrieView.seen c.args.view in
    let child = count_trailing_zeros 32 c.args.children in
    let past = c.lex_after_child-places_after in
    let before = option_map g.V.TrieView.seen c.first_at_places-before.result in
    seen_some v (IsChosen (node v) (bit_and c.args.places (4294967295 - past.result.0)) 0) (IsChosen (node v) c.args.places c.args.children) before
    (some_mapped g.V.TrieView.seen c.first_at_places-before.result true (sym c.is_some.ensures ∙ c.if-is_some.true))
    (before_found (held v) (node v) c.args.places c.args.children child past.result.0 past.result.1 (low_bits 5 child)
    (child_slot child (below_child_bit c.args.children c.ranges.children.fits c.if-children-eq0.false)) past.ensures.data_bits past.ensures.child_bits (mask_small (is_past (low_bits 5 child)) _ past.ensures.data_bits)
    (lowest_child c.args.children c.ranges.children.fits c.if-children-eq0.false) (none_lower c.args.children c.ranges.children.fits c.if-children-eq0.false))
    c.first_at_places-before.ensures

pub get_child-next-requires : goal.get_child-next-requires
get_child-next-requires g t c = set_from _ _ (c.requires.children _ (lowest_child c.args.children c.ranges.children.fits c.if-children-eq0.false))

pub first_of-below-requires : goal.first_of-below-requires
first_of-below-requires g t c κs within =
    let v = g.V.TrieView.seen c.args.view in
    let w = g.V.TrieView.seen c.get_child-next.result in
    let child = count_trailing_zeros 32 c.args.children in
    let deep = child_deep v w child _ (g.met.V.TrieView.place_law c.get_child-next.result) c.get_child-next.ensures in
    let small = c.child_bitmap.type_inv in
    let size = deep.0 in
    let fits = deep.1 in
    let less : (g.V.P.R.Bits.WIDTH - length (node w)) * 4294967296 + c.child_bitmap.result < (g.V.P.R.Bits.WIDTH - length (node v)) * 4294967296 + c.args.children = omega (arith, size, fits, small) in
    let places : (b : ℕ) → bit_at c.data_bitmap.result b ≡ 1 → bit_at (data_below w) b ≡ 1 = λ b e. ap (λ n. bit_at n b) (sym c.data_bitmap.ensures) ∙ e in
    let children : (b : ℕ) → bit_at c.child_bitmap.result b ≡ 1 → bit_at (children_below w) b ≡ 1 = λ b e. ap (λ n. bit_at n b) (sym c.child_bitmap.ensures) ∙ e in
    search rules

pub returns-then-is_some-2 : goal.returns-then-is_some-2
returns-then-is_some-2 g t c =
    let v = g.V.TrieView.seen c.args.view in
    let w = g.V.TrieView.seen c.get_child-next.result in
    let child = count_trailing_zeros 32 c.args.children in
    let past = c.lex_after_child-places_after in
    let slot = child_slot child (below_child_bit c.args.children c.ranges.children.fits c.if-children-eq0.false) in
    let lowest = lowest_child c.args.children c.ranges.children.fits c.if-children-eq0.false in
    let none = seen_none v (IsChosen (node v) (bit_and c.args.places (4294967295 - past.result.0)) 0) (option_map g.V.TrieView.seen c.first_at_places-before.result)
    (some_mapped g.V.TrieView.seen c.first_at_places-before.result false (sym c.is_some.ensures ∙ c.if-is_some.false)) c.first_at_places-before.ensures in
    let found = option_map g.V.TrieView.seen c.first_of-below.result in
    let below : IsFirstSeen v (λ k. begins_with (node v ++ low_bits 5 child) k ≡ true) found =
    seen_in_child v (node v ++ low_bits 5 child) (child_held v child (low_bits 5 child) slot (c.requires.children child lowest)).0 (child_five v child) w c.get_child-next.ensures _ (g.met.V.TrieView.place_law c.get_child-next.result)
    c.data_bitmap.result c.child_bitmap.result c.data_bitmap.ensures c.child_bitmap.ensures found c.first_of-below.ensures in
    seen_some v (λ k. begins_with (node v ++ low_bits 5 child) k ≡ true) (IsChosen (node v) c.args.places c.args.children) found
    (some_mapped g.V.TrieView.seen c.first_of-below.result true (sym c.is_some-2.ensures ∙ c.if-is_some-2.true))
    (below_found (held v) (node v) c.args.places c.args.children child past.result.0 past.result.1 (low_bits 5 child)
    slot past.ensures.data_bits past.ensures.child_bits (mask_small (is_past (low_bits 5 child)) _ past.ensures.data_bits)
    lowest (none_lower c.args.children c.ranges.children.fits c.if-children-eq0.false) none)
    below

pub first_of-requires : goal.first_of-requires
first_of-requires g t c κs within =
    let v = g.V.TrieView.seen c.args.view in
    let child = count_trailing_zeros 32 c.args.children in
    let past = c.lex_after_child-places_after.result in
    let fewer = fewer_with c.args.children past.1 child (lowest_child c.args.children c.ranges.children.fits c.if-children-eq0.false)
    (own_range child past.1 (below_child_bit c.args.children c.ranges.children.fits c.if-children-eq0.false) c.lex_after_child-places_after.ensures.child_bits) in
    let less : (g.V.P.R.Bits.WIDTH - length (node v)) * 4294967296 + bit_and c.args.children past.1 < (g.V.P.R.Bits.WIDTH - length (node v)) * 4294967296 + c.args.children = omega (arith, fewer) in
    let places : (b : ℕ) → bit_at (bit_and c.args.places past.0) b ≡ 1 → bit_at (data_below v) b ≡ 1 = λ b e. c.requires.places b (and_set c.args.places past.0 b e).0 in
    let children : (b : ℕ) → bit_at (bit_and c.args.children past.1) b ≡ 1 → bit_at (children_below v) b ≡ 1 = λ b e. c.requires.children b (and_set c.args.children past.1 b e).0 in
    search rules

pub returns : goal.returns
returns g t c =
    let v = g.V.TrieView.seen c.args.view in
    let w = g.V.TrieView.seen c.get_child-next.result in
    let child = count_trailing_zeros 32 c.args.children in
    let past = c.lex_after_child-places_after in
    let slot = child_slot child (below_child_bit c.args.children c.ranges.children.fits c.if-children-eq0.false) in
    let lowest = lowest_child c.args.children c.ranges.children.fits c.if-children-eq0.false in
    let none = seen_none v (IsChosen (node v) (bit_and c.args.places (4294967295 - past.result.0)) 0) (option_map g.V.TrieView.seen c.first_at_places-before.result)
    (some_mapped g.V.TrieView.seen c.first_at_places-before.result false (sym c.is_some.ensures ∙ c.if-is_some.false)) c.first_at_places-before.ensures in
    let found = option_map g.V.TrieView.seen c.first_of-below.result in
    let below : IsFirstSeen v (λ k. begins_with (node v ++ low_bits 5 child) k ≡ true) found =
    seen_in_child v (node v ++ low_bits 5 child) (child_held v child (low_bits 5 child) slot (c.requires.children child lowest)).0 (child_five v child) w c.get_child-next.ensures _ (g.met.V.TrieView.place_law c.get_child-next.result)
    c.data_bitmap.result c.child_bitmap.result c.data_bitmap.ensures c.child_bitmap.ensures found c.first_of-below.ensures in
    let gone = seen_none v (λ k. begins_with (node v ++ low_bits 5 child) k ≡ true) found (some_mapped g.V.TrieView.seen c.first_of-below.result false (sym c.is_some-2.ensures ∙ c.if-is_some-2.false)) below in
    let after = option_map g.V.TrieView.seen c.first_of.result in
    seen_lifted v (IsChosen (node v) (bit_and c.args.places past.result.0) (bit_and c.args.children past.result.1)) (IsChosen (node v) c.args.places c.args.children) after
    (below_none (held v) (node v) c.args.places c.args.children child past.result.0 past.result.1 (low_bits 5 child)
    slot past.ensures.data_bits past.ensures.child_bits (mask_small (is_past (low_bits 5 child)) _ past.ensures.data_bits)
    lowest (none_lower c.args.children c.ranges.children.fits c.if-children-eq0.false) none gone)
    c.first_of.ensures
