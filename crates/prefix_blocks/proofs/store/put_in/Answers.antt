use Rattle.std.proofs.Common.{refl, sym, ap, ◌∙◌}
use Rattle.std.specs.List.{insert}
use Rattle.prefix_blocks.specs.Cells.{laid, items_of}
use Rattle.prefix_blocks.proofs.WindowLaws.{put_first, put_later}
use Rattle.prefix_blocks.proofs.store.put_in.Goals as goal

pub returns-then-place-eq0 : goal.returns-then-place-eq0
returns-then-place-eq0 g c =
    put_first c.args.cells.now _ c.shift_in.new.cells (items_of c.args.cells.now) c.index-cells-0.result c.demote.new.cell c.args.item c.requires.held c.demote.ensures refl c.shift_in.ensures
    ∙ ap (λ p. laid (insert (items_of c.args.cells.now) p c.args.item)) (sym c.if-place-eq0.true)

pub returns-else-place-eq0 : goal.returns-else-place-eq0
returns-else-place-eq0 g c =
    put_later c.args.cells.now c.shift_in-else-place-eq0.new.cells (items_of c.args.cells.now) c.args.place c.args.item c.requires.held c.requires.within c.if-place-eq0.false c.shift_in-else-place-eq0.ensures
