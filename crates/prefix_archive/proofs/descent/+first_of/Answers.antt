use Rattle.std.proofs.Common.{◌≡◌, ◌+◌, ◌-◌, ◌*◌, ◌%◌, ◌<◌, ◌≤◌, ◌++◌, ℕ, bit_and, take, true, false, sym, ◌∙◌, arith, rules}
use Rattle.std.specs.FinMap as map
use Rattle.std.specs.Int.{bit_at}
use Rattle.std.specs.Option.{option_map}
use lib.Count.{count_trailing_zeros}
use Rattle.prefix_model.specs.InPlace.{is_position}
use Rattle.prefix_model.specs.Keys.{low_bits}
use Rattle.prefix_model.specs.Masks.{is_past}
use Rattle.prefix_model.specs.Walks.{begins_with}
use Rattle.prefix_table.specs.Records.{node_record}
use Rattle.prefix_model.specs.NodeSearches.{IsChosen}
use Rattle.prefix_model.proofs.Bitmaps.NodeBits.{and_set, mask_small, fewer_with, own_range, lowest_child, below_child_bit, none_lower, child_small}
use Rattle.prefix_model.proofs.MaskBits.{child_slot}
use Rattle.prefix_model.proofs.Walking.Chosen.{no_children, before_found, below_found, below_none, some_mapped, where_some, where_none}
use Rattle.prefix_model.proofs.KeyPieces.{taken_length}
use Rattle.prefix_archive.proofs.Descents.{child_fits, next_node, next_first}
use Rattle.prefix_archive.proofs.descent.+first_of.Goals as goal

pub returns-then-children-eq0-clause-first : goal.returns-then-children-eq0-clause-first
returns-then-children-eq0-clause-first g t c =
    no_children (map.get c.args.archive.now.table.entries) (take c.args.depth (g.P.R.Bits.bits c.args.key)) c.args.places c.args.children c.if-children-eq0.true
    (option_map (λ x. (take x.len (g.P.R.Bits.bits x.key), x.value.spelling.value)) c.first_at_places.result) c.first_at_places.ensures.first

pub first_at_places-before-requires-clause-places : goal.first_at_places-before-requires-clause-places
first_at_places-before-requires-clause-places g t c = λ b e. c.requires.places b (and_set c.args.places (4294967295 - c.lex_after_child-places_after.result.0) b e).0

pub returns-then-is_some-clause-first : goal.returns-then-is_some-clause-first
returns-then-is_some-clause-first g t c =
    let f = map.get c.args.archive.now.table.entries in
    let n = take c.args.depth (g.P.R.Bits.bits c.args.key) in
    let child = count_trailing_zeros 32 c.args.children in
    let past = c.lex_after_child-places_after in
    where_some f (IsChosen n (bit_and c.args.places (4294967295 - past.result.0)) 0) (IsChosen n c.args.places c.args.children)
    (before_found f n c.args.places c.args.children child past.result.0 past.result.1 (low_bits 5 child)
    (child_slot child (below_child_bit c.args.children c.ranges.children.fits c.if-children-eq0.false)) past.ensures.data_bits past.ensures.child_bits (mask_small (is_past (low_bits 5 child)) _ past.ensures.data_bits)
    (lowest_child c.args.children c.ranges.children.fits c.if-children-eq0.false) (none_lower c.args.children c.ranges.children.fits c.if-children-eq0.false))
    (option_map (λ x. (take x.len (g.P.R.Bits.bits x.key), x.value.spelling.value)) c.first_at_places-before.result)
    (some_mapped (λ x. (take x.len (g.P.R.Bits.bits x.key), x.value.spelling.value)) c.first_at_places-before.result true (sym c.is_some.ensures ∙ c.if-is_some.true)) c.first_at_places-before.ensures.first

pub child_at-next-requires-clause-place : goal.child_at-next-requires-clause-place
child_at-next-requires-clause-place g t c = below_child_bit c.args.children c.ranges.children.fits c.if-children-eq0.false

pub child_at-next-requires-clause-set : goal.child_at-next-requires-clause-set
child_at-next-requires-clause-set g t c = c.requires.children (count_trailing_zeros 32 c.args.children) (lowest_child c.args.children c.ranges.children.fits c.if-children-eq0.false)

pub extend_repr-next_key-requires-clause-within : goal.extend_repr-next_key-requires-clause-within
extend_repr-next_key-requires-clause-within g t c =
    let bits = g.P.R.Bits.bits c.args.key in
    let m = c.args.archive.now.table in
    let size = taken_length bits c.args.depth g.P.R.Bits.WIDTH (g.met.P.R.Bits.length_law c.args.key) c.requires.depth in
    let l = child_fits m.entries (take c.args.depth bits) (node_record c.args.node.now) c.requires.node g.P.R.Bits.WIDTH m.spelled.width (count_trailing_zeros 32 c.args.children)
    (below_child_bit c.args.children c.ranges.children.fits c.if-children-eq0.false) (c.requires.children (count_trailing_zeros 32 c.args.children) (lowest_child c.args.children c.ranges.children.fits c.if-children-eq0.false)) in
    omega (arith, l, size)

pub first_of-below-requires : goal.first_of-below-requires
first_of-below-requires g t c κs within =
    let m = c.args.archive.now.table in
    let w : ℕ = g.P.R.Bits.WIDTH in
    let bits = g.P.R.Bits.bits c.args.key in
    let n = take c.args.depth bits in
    let child = count_trailing_zeros 32 c.args.children in
    let ys = g.P.R.Bits.bits c.extend_repr-next_key.result in
    let next = c.child_at-next.result in
    let size = taken_length bits c.args.depth w (g.met.P.R.Bits.length_law c.args.key) c.requires.depth in
    let l = child_fits m.entries n (node_record c.args.node.now) c.requires.node w m.spelled.width child
    (below_child_bit c.args.children c.ranges.children.fits c.if-children-eq0.false) (c.requires.children (count_trailing_zeros 32 c.args.children) (lowest_child c.args.children c.ranges.children.fits c.if-children-eq0.false)) in
    let deep : c.args.depth + 5 ≤ w = omega (arith, l, size) in
    let node = next_node m.entries n child c.args.depth (w - (c.args.depth + 5)) ys size c.extend_repr-next_key.ensures (node_record next) c.child_at-next.ensures in
    let small = child_small (is_position m.entries) (take (c.args.depth + 5) ys) next.child_bits node.child_bits_are in
    let less : (w - (c.args.depth + 5)) * 4294967296 + next.child_bits < (w - c.args.depth) * 4294967296 + c.args.children = omega (arith, deep, small) in
    let five : (c.args.depth + 5) % 5 ≡ 0 = let e = c.requires.at_five in omega (arith, e) in
    search rules

pub returns-then-is_some-2-clause-first : goal.returns-then-is_some-2-clause-first
returns-then-is_some-2-clause-first g t c =
    let m = c.args.archive.now.table in
    let f = map.get m.entries in
    let w : ℕ = g.P.R.Bits.WIDTH in
    let bits = g.P.R.Bits.bits c.args.key in
    let n = take c.args.depth bits in
    let child = count_trailing_zeros 32 c.args.children in
    let past = c.lex_after_child-places_after in
    let ys = g.P.R.Bits.bits c.extend_repr-next_key.result in
    let next = c.child_at-next.result in
    let size = taken_length bits c.args.depth w (g.met.P.R.Bits.length_law c.args.key) c.requires.depth in
    let none = where_none f (IsChosen n (bit_and c.args.places (4294967295 - past.result.0)) 0) (option_map (λ x. (take x.len (g.P.R.Bits.bits x.key), x.value.spelling.value)) c.first_at_places-before.result)
    (some_mapped (λ x. (take x.len (g.P.R.Bits.bits x.key), x.value.spelling.value)) c.first_at_places-before.result false (sym c.is_some.ensures ∙ c.if-is_some.false)) c.first_at_places-before.ensures.first in
    let below = next_first m.entries n child c.args.depth (w - (c.args.depth + 5)) ys size c.extend_repr-next_key.ensures (node_record next) c.child_at-next.ensures w m.spelled.width c.requires.at_five
    (option_map (λ x. (take x.len (g.P.R.Bits.bits x.key), x.value.spelling.value)) c.first_of-below.result) c.first_of-below.ensures.first in
    where_some f (λ k. begins_with (n ++ low_bits 5 child) k ≡ true) (IsChosen n c.args.places c.args.children)
    (below_found f n c.args.places c.args.children child past.result.0 past.result.1 (low_bits 5 child)
    (child_slot child (below_child_bit c.args.children c.ranges.children.fits c.if-children-eq0.false)) past.ensures.data_bits past.ensures.child_bits (mask_small (is_past (low_bits 5 child)) _ past.ensures.data_bits)
    (lowest_child c.args.children c.ranges.children.fits c.if-children-eq0.false) (none_lower c.args.children c.ranges.children.fits c.if-children-eq0.false) none)
    (option_map (λ x. (take x.len (g.P.R.Bits.bits x.key), x.value.spelling.value)) c.first_of-below.result)
    (some_mapped (λ x. (take x.len (g.P.R.Bits.bits x.key), x.value.spelling.value)) c.first_of-below.result true (sym c.is_some-2.ensures ∙ c.if-is_some-2.true)) below

pub first_of-requires : goal.first_of-requires
first_of-requires g t c κs within =
    let n = take c.args.depth (g.P.R.Bits.bits c.args.key) in
    let child = count_trailing_zeros 32 c.args.children in
    let past = c.lex_after_child-places_after.result in
    let fewer = fewer_with c.args.children past.1 child (lowest_child c.args.children c.ranges.children.fits c.if-children-eq0.false)
    (own_range child past.1 (below_child_bit c.args.children c.ranges.children.fits c.if-children-eq0.false) c.lex_after_child-places_after.ensures.child_bits) in
    let less : (g.P.R.Bits.WIDTH - c.args.depth) * 4294967296 + bit_and c.args.children past.1 < (g.P.R.Bits.WIDTH - c.args.depth) * 4294967296 + c.args.children = omega (arith, fewer) in
    let places : (b : ℕ) → bit_at (bit_and c.args.places past.0) b ≡ 1 → bit_at c.args.node.now.data_bits b ≡ 1 = λ b e. c.requires.places b (and_set c.args.places past.0 b e).0 in
    let children : (b : ℕ) → bit_at (bit_and c.args.children past.1) b ≡ 1 → bit_at c.args.node.now.child_bits b ≡ 1 = λ b e. c.requires.children b (and_set c.args.children past.1 b e).0 in
    search rules

pub returns-clause-first : goal.returns-clause-first
returns-clause-first g t c =
    let m = c.args.archive.now.table in
    let f = map.get m.entries in
    let w : ℕ = g.P.R.Bits.WIDTH in
    let bits = g.P.R.Bits.bits c.args.key in
    let n = take c.args.depth bits in
    let child = count_trailing_zeros 32 c.args.children in
    let past = c.lex_after_child-places_after in
    let ys = g.P.R.Bits.bits c.extend_repr-next_key.result in
    let next = c.child_at-next.result in
    let size = taken_length bits c.args.depth w (g.met.P.R.Bits.length_law c.args.key) c.requires.depth in
    let none = where_none f (IsChosen n (bit_and c.args.places (4294967295 - past.result.0)) 0) (option_map (λ x. (take x.len (g.P.R.Bits.bits x.key), x.value.spelling.value)) c.first_at_places-before.result)
    (some_mapped (λ x. (take x.len (g.P.R.Bits.bits x.key), x.value.spelling.value)) c.first_at_places-before.result false (sym c.is_some.ensures ∙ c.if-is_some.false)) c.first_at_places-before.ensures.first in
    let below = next_first m.entries n child c.args.depth (w - (c.args.depth + 5)) ys size c.extend_repr-next_key.ensures (node_record next) c.child_at-next.ensures w m.spelled.width c.requires.at_five
    (option_map (λ x. (take x.len (g.P.R.Bits.bits x.key), x.value.spelling.value)) c.first_of-below.result) c.first_of-below.ensures.first in
    let gone = where_none f (λ k. begins_with (n ++ low_bits 5 child) k ≡ true) (option_map (λ x. (take x.len (g.P.R.Bits.bits x.key), x.value.spelling.value)) c.first_of-below.result)
    (some_mapped (λ x. (take x.len (g.P.R.Bits.bits x.key), x.value.spelling.value)) c.first_of-below.result false (sym c.is_some-2.ensures ∙ c.if-is_some-2.false)) below in
    below_none f n c.args.places c.args.children child past.result.0 past.result.1 (low_bits 5 child)
    (child_slot child (below_child_bit c.args.children c.ranges.children.fits c.if-children-eq0.false)) past.ensures.data_bits past.ensures.child_bits (mask_small (is_past (low_bits 5 child)) _ past.ensures.data_bits)
    (lowest_child c.args.children c.ranges.children.fits c.if-children-eq0.false) (none_lower c.args.children c.ranges.children.fits c.if-children-eq0.false) none gone
    (option_map (λ x. (take x.len (g.P.R.Bits.bits x.key), x.value.spelling.value)) c.first_of.result) c.first_of.ensures.first
