use Rattle.std.proofs.Common.{◌≡◌, ◌+◌, ◌-◌, List, ap, subst, ◌∙◌, arith}
use Rattle.std.specs.List.{insert}
use Rattle.prefix_blocks.specs.declared.store.Cell.{Cell}
use Rattle.prefix_blocks.specs.Cells.{laid, items_of, part, with_part, IsAllBut}
use Rattle.prefix_blocks.proofs.store.put_at.Goals as goal

pub put_in-requires-clause-held : goal.put_in-requires-clause-held
put_in-requires-clause-held g c =
    subst (λ k. IsAllBut (part c.args.cells.now c.args.first k)) (let e : c.args.count + 1 ≡ c.args.first + c.args.count + 1 - c.args.first = omega arith in e) c.requires.held

pub returns : goal.returns
returns g c =
    let e : c.args.first + c.args.count + 1 - c.args.first ≡ c.args.count + 1 = omega arith in
    ap (λ k. with_part c.args.cells.now c.args.first k c.put_in.new.cells) e
    ∙ ap (λ (w : List (Cell g.row.A.Denot)). with_part c.args.cells.now c.args.first (c.args.count + 1) w)
    (c.put_in.ensures ∙ ap (λ k. laid (insert (items_of (part c.args.cells.now c.args.first k)) c.args.place c.args.item)) e)
