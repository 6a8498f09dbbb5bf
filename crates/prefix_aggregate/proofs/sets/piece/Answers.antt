use Rattle.std.proofs.Common.{◌≤◌, ◌-◌, ◌∙◌, ap, sym, arith, rules, length, take, drop, Some}
use Rattle.std.specs.Prelude.{slice_index_or}
use Rattle.prefix_aggregate.proofs.StackLaws.{piece_within, piece_at}
use Rattle.prefix_aggregate.proofs.sets.piece.Goals as goal

pub offset_bounds-values-start : goal.offset_bounds-values-start
offset_bounds-values-start g c =
    let w = piece_within 0 c.args.ends.now (length c.args.values.now) c.args.number c.requires.ends c.requires.number in
    let first = w.0 in let second = w.1 in let e = c.start_of-start.ensures in omega (arith, first, second, e)

pub slice_bounds-result-count : goal.slice_bounds-result-count
slice_bounds-result-count g c =
    let w = piece_within 0 c.args.ends.now (length c.args.values.now) c.args.number c.requires.ends c.requires.number in
    let first = w.0 in let e = c.start_of-start.ensures in omega (arith, first, e)

pub slice_bounds-result-start : goal.slice_bounds-result-start
slice_bounds-result-start g c =
    let w = piece_within 0 c.args.ends.now (length c.args.values.now) c.args.number c.requires.ends c.requires.number in
    let first : c.start_of-start.result ≤ slice_index_or c.args.ends.now c.args.number 0 = (let first = w.0 in let e = c.start_of-start.ensures in omega (arith, first, e)) in
    search rules

pub slice_bounds-result-end : goal.slice_bounds-result-end
slice_bounds-result-end g c =
    let w = piece_within 0 c.args.ends.now (length c.args.values.now) c.args.number c.requires.ends c.requires.number in
    let second : slice_index_or c.args.ends.now c.args.number 0 ≤ length c.args.values.now = w.1 in
    search rules

pub returns : goal.returns
returns g c =
    piece_at 0 c.args.ends.now c.args.values.now c.args.number c.requires.number
    ∙ ap (λ s. Some (take (slice_index_or c.args.ends.now c.args.number 0 - s) (drop s c.args.values.now))) (sym c.start_of-start.ensures)
