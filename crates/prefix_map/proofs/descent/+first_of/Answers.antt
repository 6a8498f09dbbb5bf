use Rattle.std.proofs.Common.{◌≡◌, ◌+◌, ◌-◌, ◌*◌, ◌<◌, ◌≤◌, ◌++◌, ◌∙◌, ℕ, Some, true, false, bit_and, take, sym, subst, arith, rules}
use Rattle.std.specs.FinMap as map
use Rattle.std.specs.Int.{bit_at}
use Rattle.std.specs.Option.{option_map}
use lib.Count.{count_trailing_zeros}
use Rattle.prefix_model.specs.Keys.{low_bits}
use Rattle.prefix_model.specs.Masks.{is_past}
use Rattle.prefix_model.specs.Positions.{data_bits}
use Rattle.prefix_model.specs.Walks.{begins_with}
use Rattle.prefix_model.specs.TableViews.{position_at}
use Rattle.prefix_map.specs.Searches.{entry_from}
use Rattle.prefix_model.specs.NodeSearches.{IsFirstOf, IsChosen}
use Rattle.prefix_model.proofs.Bitmaps.NodeBits.{and_set, mask_small, fewer_with, own_range, lowest_child, below_child_bit, none_lower, child_small}
use Rattle.prefix_model.proofs.MaskBits.{child_slot}
use Rattle.prefix_model.proofs.Walking.Chosen.{no_children, before_found, below_found, below_none, some_mapped, where_some, where_none}
use Rattle.prefix_model.proofs.KeyPieces.{taken_length}
use Rattle.prefix_map.proofs.Descents.{child_fits, next_named, next_data, next_first, next_none}
use Rattle.prefix_map.proofs.descent.+first_of.Goals.{in-Some, in-None}
use Rattle.prefix_map.proofs.descent.+first_of.Goals as goal

pub returns-then-children-eq0-clause-first : goal.returns-then-children-eq0-clause-first
returns-then-children-eq0-clause-first g t c =
    no_children (map.get c.args.table.now.entries) (take c.args.depth (g.R.Bits.bits c.args.key)) c.args.places c.args.children c.if-children-eq0.true
    (option_map (entry_from g.R.Bits.bits 0) c.first_at_places.result) c.first_at_places.ensures.first

pub first_at_places-before-requires-clause-places : goal.first_at_places-before-requires-clause-places
first_at_places-before-requires-clause-places g t c = λ b e. c.requires.places b (and_set c.args.places (4294967295 - c.lex_after_child-places_after.result.0) b e).0

pub returns-then-is_some-clause-first : goal.returns-then-is_some-clause-first
returns-then-is_some-clause-first g t c =
    let f = map.get c.args.table.now.entries in
    let n = take c.args.depth (g.R.Bits.bits c.args.key) in
    let child = count_trailing_zeros 32 c.args.children in
    let past = c.lex_after_child-places_after in
    let entry = entry_from g.R.Bits.bits 0 in
    where_some f (IsChosen n (bit_and c.args.places (4294967295 - past.result.0)) 0) (IsChosen n c.args.places c.args.children)
    (before_found f n c.args.places c.args.children child past.result.0 past.result.1 (low_bits 5 child)
    (child_slot child (below_child_bit c.args.children c.ranges.children.fits c.if-children-eq0.false)) past.ensures.data_bits past.ensures.child_bits (mask_small (is_past (low_bits 5 child)) _ past.ensures.data_bits)
    (lowest_child c.args.children c.ranges.children.fits c.if-children-eq0.false) (none_lower c.args.children c.ranges.children.fits c.if-children-eq0.false))
    (option_map entry c.first_at_places-before.result) (some_mapped entry c.first_at_places-before.result true (sym c.is_some.ensures ∙ c.if-is_some.true)) c.first_at_places-before.ensures.first

pub extend_repr-next_key-requires-clause-within : goal.extend_repr-next_key-requires-clause-within
extend_repr-next_key-requires-clause-within g t c =
    let bits = g.R.Bits.bits c.args.key in
    let n = take c.args.depth bits in
    let size = taken_length bits c.args.depth g.R.Bits.WIDTH (g.met.R.Bits.length_law c.args.key) c.requires.depth in
    let l = child_fits c.args.table.now n c.args.at c.requires.named c.requires.holds g.R.Bits.WIDTH c.requires.fits c.in-Some.next (count_trailing_zeros 32 c.args.children) c.in-Some.ensures in
    omega (arith, l, size)

pub first_of-below-requires : goal.first_of-below-requires
first_of-below-requires g t c κs within =
    let view = c.args.table.now in
    let bits = g.R.Bits.bits c.args.key in
    let n = take c.args.depth bits in
    let child = count_trailing_zeros 32 c.args.children in
    let ys = g.R.Bits.bits c.extend_repr-next_key.result in
    let size = taken_length bits c.args.depth g.R.Bits.WIDTH (g.met.R.Bits.length_law c.args.key) c.requires.depth in
    let l = child_fits view n c.args.at c.requires.named c.requires.holds g.R.Bits.WIDTH c.requires.fits c.in-Some.next child c.in-Some.ensures in
    let deep : c.args.depth + 5 ≤ g.R.Bits.WIDTH = omega (arith, l, size) in
    let small = child_small (map.contains_key view.kept) (position_at view c.in-Some.next) c.node-bits.result.child_bits c.node-bits.ensures.children in
    let less : (g.R.Bits.WIDTH - (c.args.depth + 5)) * 4294967296 + c.node-bits.result.child_bits < (g.R.Bits.WIDTH - c.args.depth) * 4294967296 + c.args.children = omega (arith, deep, small) in
    let named : map.get view.places c.in-Some.next ≡ Some (take (c.args.depth + 5) ys) =
    next_named view n c.args.at c.requires.named c.requires.holds c.args.depth size c.in-Some.next child (g.R.Bits.WIDTH - (c.args.depth + 5)) ys c.in-Some.ensures c.extend_repr-next_key.ensures in
    let places : (b : ℕ) → bit_at c.node-bits.result.data_bits b ≡ 1 → bit_at (data_bits (map.get view.entries) (take (c.args.depth + 5) ys)) b ≡ 1 =
    λ b e. next_data view n c.args.at c.requires.named c.requires.holds c.args.depth size c.in-Some.next child (g.R.Bits.WIDTH - (c.args.depth + 5)) ys c.in-Some.ensures c.extend_repr-next_key.ensures c.node-bits.result.data_bits b c.node-bits.ensures.«data» e in
    search rules

pub returns-then-is_some-2-clause-first : goal.returns-then-is_some-2-clause-first
returns-then-is_some-2-clause-first g t c =
    let view = c.args.table.now in
    let f = map.get view.entries in
    let bits = g.R.Bits.bits c.args.key in
    let n = take c.args.depth bits in
    let child = count_trailing_zeros 32 c.args.children in
    let past = c.lex_after_child-places_after in
    let entry = entry_from g.R.Bits.bits 0 in
    let size = taken_length bits c.args.depth g.R.Bits.WIDTH (g.met.R.Bits.length_law c.args.key) c.requires.depth in
    let none = where_none f (IsChosen n (bit_and c.args.places (4294967295 - past.result.0)) 0) (option_map entry c.first_at_places-before.result)
    (some_mapped entry c.first_at_places-before.result false (sym c.is_some.ensures ∙ c.if-is_some.false)) c.first_at_places-before.ensures.first in
    let below : IsFirstOf f (λ k. begins_with (n ++ low_bits 5 child) k ≡ true) (option_map entry c.match-child.below) = elim c.match-child.branch [
      | in-Some w ↦ subst (λ o. IsFirstOf f (λ k. begins_with (n ++ low_bits 5 child) k ≡ true) (option_map entry o)) (sym w.below-is)
          (next_first view n c.args.at c.requires.named c.requires.holds c.args.depth size w.in-Some.next child (g.R.Bits.WIDTH - (c.args.depth + 5)) (g.R.Bits.bits w.extend_repr-next_key.result) w.in-Some.ensures w.extend_repr-next_key.ensures
          w.node-bits.result.data_bits w.node-bits.result.child_bits w.node-bits.ensures.«data» w.node-bits.ensures.children (option_map entry w.first_of-below.result) w.first_of-below.ensures.first)
      | in-None w ↦ subst (λ o. IsFirstOf f (λ k. begins_with (n ++ low_bits 5 child) k ≡ true) (option_map entry o)) (sym w.below-is)
          (next_none view n c.args.at c.requires.named c.requires.holds c.args.depth size child w.in-None.ensures)
    ] in
    where_some f (λ k. begins_with (n ++ low_bits 5 child) k ≡ true) (IsChosen n c.args.places c.args.children)
    (below_found f n c.args.places c.args.children child past.result.0 past.result.1 (low_bits 5 child)
    (child_slot child (below_child_bit c.args.children c.ranges.children.fits c.if-children-eq0.false)) past.ensures.data_bits past.ensures.child_bits (mask_small (is_past (low_bits 5 child)) _ past.ensures.data_bits)
    (lowest_child c.args.children c.ranges.children.fits c.if-children-eq0.false) (none_lower c.args.children c.ranges.children.fits c.if-children-eq0.false) none)
    (option_map entry c.match-child.below) (some_mapped entry c.match-child.below true (sym c.is_some-2.ensures ∙ c.if-is_some-2.true)) below

pub first_of-requires : goal.first_of-requires
first_of-requires g t c κs within =
    let view = c.args.table.now in
    let n = take c.args.depth (g.R.Bits.bits c.args.key) in
    let child = count_trailing_zeros 32 c.args.children in
    let past = c.lex_after_child-places_after.result in
    let fewer = fewer_with c.args.children past.1 child (lowest_child c.args.children c.ranges.children.fits c.if-children-eq0.false)
    (own_range child past.1 (below_child_bit c.args.children c.ranges.children.fits c.if-children-eq0.false) c.lex_after_child-places_after.ensures.child_bits) in
    let less : (g.R.Bits.WIDTH - c.args.depth) * 4294967296 + bit_and c.args.children past.1 < (g.R.Bits.WIDTH - c.args.depth) * 4294967296 + c.args.children = omega (arith, fewer) in
    let places : (b : ℕ) → bit_at (bit_and c.args.places past.0) b ≡ 1 → bit_at (data_bits (map.get view.entries) n) b ≡ 1 = λ b e. c.requires.places b (and_set c.args.places past.0 b e).0 in
    search rules

pub returns-clause-first : goal.returns-clause-first
returns-clause-first g t c =
    let view = c.args.table.now in
    let f = map.get view.entries in
    let bits = g.R.Bits.bits c.args.key in
    let n = take c.args.depth bits in
    let child = count_trailing_zeros 32 c.args.children in
    let past = c.lex_after_child-places_after in
    let entry = entry_from g.R.Bits.bits 0 in
    let size = taken_length bits c.args.depth g.R.Bits.WIDTH (g.met.R.Bits.length_law c.args.key) c.requires.depth in
    let none = where_none f (IsChosen n (bit_and c.args.places (4294967295 - past.result.0)) 0) (option_map entry c.first_at_places-before.result)
    (some_mapped entry c.first_at_places-before.result false (sym c.is_some.ensures ∙ c.if-is_some.false)) c.first_at_places-before.ensures.first in
    let below : IsFirstOf f (λ k. begins_with (n ++ low_bits 5 child) k ≡ true) (option_map entry c.match-child.below) = elim c.match-child.branch [
      | in-Some w ↦ subst (λ o. IsFirstOf f (λ k. begins_with (n ++ low_bits 5 child) k ≡ true) (option_map entry o)) (sym w.below-is)
          (next_first view n c.args.at c.requires.named c.requires.holds c.args.depth size w.in-Some.next child (g.R.Bits.WIDTH - (c.args.depth + 5)) (g.R.Bits.bits w.extend_repr-next_key.result) w.in-Some.ensures w.extend_repr-next_key.ensures
          w.node-bits.result.data_bits w.node-bits.result.child_bits w.node-bits.ensures.«data» w.node-bits.ensures.children (option_map entry w.first_of-below.result) w.first_of-below.ensures.first)
      | in-None w ↦ subst (λ o. IsFirstOf f (λ k. begins_with (n ++ low_bits 5 child) k ≡ true) (option_map entry o)) (sym w.below-is)
          (next_none view n c.args.at c.requires.named c.requires.holds c.args.depth size child w.in-None.ensures)
    ] in
    let gone = where_none f (λ k. begins_with (n ++ low_bits 5 child) k ≡ true) (option_map entry c.match-child.below)
    (some_mapped entry c.match-child.below false (sym c.is_some-2.ensures ∙ c.if-is_some-2.false)) below in
    below_none f n c.args.places c.args.children child past.result.0 past.result.1 (low_bits 5 child)
    (child_slot child (below_child_bit c.args.children c.ranges.children.fits c.if-children-eq0.false)) past.ensures.data_bits past.ensures.child_bits (mask_small (is_past (low_bits 5 child)) _ past.ensures.data_bits)
    (lowest_child c.args.children c.ranges.children.fits c.if-children-eq0.false) (none_lower c.args.children c.ranges.children.fits c.if-children-eq0.false) none gone
    (option_map entry c.first_of.result) c.first_of.ensures.first
