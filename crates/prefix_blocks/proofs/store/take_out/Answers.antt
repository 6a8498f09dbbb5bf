use Rattle.std.proofs.Common.{List, ◌<◌, ◌∷◌, [], ◌++◌, length, sym, ap, ◌∙◌, arith}
use Rattle.prefix_blocks.specs.declared.store.Cell.{Cell}
use Rattle.prefix_blocks.specs.declared.store.Cell.TheVariants.{Unused}
use Rattle.prefix_blocks.specs.Cells.{items_of, item_of}
use Rattle.prefix_blocks.proofs.WindowLaws.{length-laid, taken_cell, item_laid, laid_some_item, left_first, left_later}
use Rattle.prefix_blocks.proofs.store.take_out.Goals.{then-place-eq0, else-place-eq0}
use Rattle.prefix_blocks.proofs.store.take_out.Goals as goal

pub into_item-requires : goal.into_item-requires
into_item-requires g c =
    let l = items_of c.args.cells.now in
    let within : c.args.place < length l = (let len = ap length c.requires.held ∙ length-laid l in omega arith) in
    let e = c.shift_out-taken.ensures ∙ ap (λ (w : List (Cell g.row.A.Denot)). w ++ Unused ∷ []) c.requires.held in
    laid_some_item l c.args.place c.shift_out-taken.result (taken_cell c.shift_out-taken.new.cells l c.args.place c.shift_out-taken.result e (omega arith) within) within

pub returns-clause-value : goal.returns-clause-value
returns-clause-value g c =
    let l = items_of c.args.cells.now in
    let within : c.args.place < length l = (let len = ap length c.requires.held ∙ length-laid l in omega arith) in
    let e = c.shift_out-taken.ensures ∙ ap (λ (w : List (Cell g.row.A.Denot)). w ++ Unused ∷ []) c.requires.held in
    let is = taken_cell c.shift_out-taken.new.cells l c.args.place c.shift_out-taken.result e (omega arith) within in
    sym (ap item_of is ∙ item_laid l c.args.place) ∙ c.into_item.ensures

pub returns-clause-cells : goal.returns-clause-cells
returns-clause-cells g c =
    let l = items_of c.args.cells.now in
    let within : c.args.place < length l = (let len = ap length c.requires.held ∙ length-laid l in omega arith) in
    let e = c.shift_out-taken.ensures ∙ ap (λ (w : List (Cell g.row.A.Denot)). w ++ Unused ∷ []) c.requires.held in
    elim c.if-place-eq0.branch [
      | then-place-eq0 w ↦ w.cells-is ∙ left_first c.shift_out-taken.new.cells l c.args.place c.shift_out-taken.result w.index-cells-0.result w.promote.new.cell e (omega arith) within w.if-place-eq0.true w.promote.ensures
      | else-place-eq0 w ↦ w.cells-is ∙ left_later c.shift_out-taken.new.cells l c.args.place c.shift_out-taken.result e (omega arith) within w.if-place-eq0.false
    ]
