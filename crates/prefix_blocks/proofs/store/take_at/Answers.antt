use Rattle.std.proofs.Common.{◌≡◌, ◌+◌, ◌-◌, ◌∷◌, [], ◌++◌, List, ap, subst, ◌∙◌, arith}
use Rattle.std.specs.List.{remove}
use Rattle.std.specs.Prelude.{slice_get}
use Rattle.prefix_blocks.specs.declared.store.Cell.{Cell}
use Rattle.prefix_blocks.specs.declared.store.Cell.TheVariants.{Unused}
use Rattle.prefix_blocks.specs.Cells.{laid, items_of, part, with_part}
use Rattle.prefix_blocks.proofs.store.take_at.Goals as goal

pub take_out-requires-clause-held : goal.take_out-requires-clause-held
take_out-requires-clause-held g c =
    subst (λ k. part c.args.cells.now c.args.first k ≡ laid (items_of (part c.args.cells.now c.args.first k)))
    (let e : c.args.count ≡ c.args.first + c.args.count - c.args.first = omega arith in e) c.requires.held

pub returns-clause-value : goal.returns-clause-value
returns-clause-value g c =
    let e : c.args.count ≡ c.args.first + c.args.count - c.args.first = omega arith in
    ap (λ k. slice_get (items_of (part c.args.cells.now c.args.first k)) c.args.place) e ∙ c.take_out.ensures.value

pub returns-clause-cells : goal.returns-clause-cells
returns-clause-cells g c =
    let e : c.args.first + c.args.count - c.args.first ≡ c.args.count = omega arith in
    ap (λ k. with_part c.args.cells.now c.args.first k c.take_out.new.cells) e
    ∙ ap (λ (w : List (Cell g.row.A.Denot)). with_part c.args.cells.now c.args.first c.args.count w)
    (c.take_out.ensures.cells ∙ ap (λ k. laid (remove (items_of (part c.args.cells.now c.args.first k)) c.args.place) ++ Unused ∷ []) e)
