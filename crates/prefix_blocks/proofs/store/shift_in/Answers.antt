use Rattle.std.proofs.Common.{◌∷◌, [], ◌++◌, take, drop, sym, ap, ◌∙◌, arith, length-set}
use Rattle.std.proofs.lemmas.List.{get_or_default}
use Rattle.prefix_blocks.specs.declared.store.Cell.{Cell}
use Rattle.prefix_blocks.specs.declared.store.Cell.TheVariants.{Unused}
use Rattle.prefix_blocks.proofs.WindowLaws.{shift_up, shift_end, shift_last}
use Rattle.prefix_blocks.proofs.store.shift_in.Goals as goal

pub loop-i-preserved : goal.loop-i-preserved
loop-i-preserved g c =
    let cells = c.loop-i.cells in
    let i = c.loop-i.i in
    record {
      len = length-set cells i c.replace-carried.new.dest ∙ c.loop-i.invariant.len;
      moved = shift_up i cells c.replace-carried.new.dest c.replace-carried.result (omega arith)
          (c.replace-carried.ensures.value ∙ get_or_default cells i c.index-cells-i.result c.replace-carried.result (omega arith))
          ∙ ap (λ (x : Cell g.row.A.Denot). take i cells ++ x ∷ drop i cells) c.replace-carried.ensures.after
          ∙ c.loop-i.invariant.moved;
    }

pub unreachable-requires : goal.unreachable-requires
unreachable-requires g c =
    c.in_default.not-Unused (shift_last c.loop-i.cells c.args.cells.now c.args.place c.args.content c.loop-i.carried Unused
    (sym (shift_end c.loop-i.cells c.loop-i.i c.loop-i.carried (omega arith)) ∙ c.loop-i.invariant.moved)
    c.loop-i.invariant.len c.requires.within c.requires.last)

pub returns : goal.returns
returns g c =
    ap (λ (x : Cell g.row.A.Denot). c.loop-i.cells ++ x ∷ []) (sym c.in-Unused.is)
    ∙ sym (shift_end c.loop-i.cells c.loop-i.i c.loop-i.carried (omega arith)) ∙ c.loop-i.invariant.moved
