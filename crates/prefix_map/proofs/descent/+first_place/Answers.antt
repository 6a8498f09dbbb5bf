use Rattle.std.proofs.Common.{◌-◌, true, arith}
use lib.Count.{count_trailing_zeros}
use Rattle.prefix_model.specs.Walks.{stands_from}
use Rattle.prefix_model.proofs.Bitmaps.NodeBits.{and_set, mask_small, first_alone, first_before, lowest_set, lowest_key, lowest_small, fewer_left}
use Rattle.prefix_map.proofs.descent.+first_place.Goals as goal

pub lex_after_data-requires : goal.lex_after_data-requires
lex_after_data-requires t c = lowest_small c.args.places c.ranges.places.fits c.requires.some c.requires.placed

pub first_place-requires : goal.first_place-requires
first_place-requires t c =
    let less = fewer_left c.args.places c.ranges.places.fits c.requires.some c.requires.placed c.lex_after_data.result.0 c.lex_after_data.ensures.data_bits in
    let d = c.decreases in
    (omega (arith, less, d), (c.if-before-eq0.false, λ b e. c.requires.placed b (and_set c.args.places (4294967295 - c.lex_after_data.result.0) b e).0))

pub returns-then-before-eq0-clause-set : goal.returns-then-before-eq0-clause-set
returns-then-before-eq0-clause-set t c = lowest_set c.args.places c.ranges.places.fits c.requires.some c.requires.placed

pub returns-then-before-eq0-clause-first : goal.returns-then-before-eq0-clause-first
returns-then-before-eq0-clause-first t c = λ b s u at is e.
    let mask = c.lex_after_data.ensures.data_bits s at in
    first_alone c.args.places (count_trailing_zeros 32 c.args.places) c.lex_after_data.result.0 s at mask (mask_small (stands_from true s) _ mask) c.if-before-eq0.true b u is e

pub returns-else-before-eq0-clause-set : goal.returns-else-before-eq0-clause-set
returns-else-before-eq0-clause-set t c = (and_set c.args.places (4294967295 - c.lex_after_data.result.0) c.first_place.result c.first_place.ensures.set).0

pub returns-else-before-eq0-clause-first : goal.returns-else-before-eq0-clause-first
returns-else-before-eq0-clause-first t c = λ b s u at is e.
    let k = lowest_key c.args.places c.ranges.places.fits c.requires.some c.requires.placed in
    let mask = c.lex_after_data.ensures.data_bits k.0 k.1 in
    first_before c.args.places (count_trailing_zeros 32 c.args.places) c.lex_after_data.result.0 k.0 k.1 mask (mask_small (stands_from true k.0) _ mask)
    c.first_place.result s at c.first_place.ensures.set (λ i t' there set. c.first_place.ensures.first i s t' at there set) b u is e
