use Rattle.std.proofs.Common.{◌≡◌, suc, ◌+◌, ◌-◌, ◌<◌, length, take, sym, ap, ◌∙◌, arith, length-set}
use Rattle.std.specs.Prelude.{slice_set}
use Rattle.std.proofs.lemmas.Bool.{cases_eq}
use Rattle.std.proofs.lemmas.List.{get_or_default, get_or-set_same, get_or-set_other}
use Rattle.std.proofs.Math.Logic.{⊎_elim}
use Rattle.prefix_blocks.specs.declared.store.Cell.TheVariants.{Unused}
use Rattle.prefix_blocks.specs.Cells.{cell, laid}
use Rattle.prefix_blocks.proofs.Adds.{laid_cell, last_of}
use Rattle.prefix_blocks.proofs.store.lay.Goals as goal

pub fill-requires : goal.fill-requires
fill-requires g c =
    let at = c.args.start + (c.loop-i.i - 1) in
    let len = c.loop-i.invariant.len in
    let within = c.requires.within in
    let ok = c.args.items.now.ok.0 in
    let upto = c.loop-i.auto.i in
    let count = c.len-i.ensures in
    get_or_default c.loop-i.cells at c.index-cells-start.result Unused (omega (arith, len, within, upto, count)) ∙ c.loop-i.invariant.unused (c.loop-i.i - 1) (omega arith)

pub loop-i-preserved : goal.loop-i-preserved
loop-i-preserved g c =
    let all = c.args.items.now.items in
    let i = c.loop-i.i - 1 in
    let at = c.args.start + i in
    let cells = c.loop-i.cells in
    let old = c.loop-i.invariant in
    let len = old.len in
    let within = c.requires.within in
    let ok = c.args.items.now.ok.0 in
    let upto = c.loop-i.auto.i in
    let count = c.len-i.ensures in
    let inside : at < length cells = omega (arith, len, within, upto, count) in
    let behind : i < length all = omega (arith, upto, count, ok) in
    let next : suc i ≡ c.loop-i.i = omega arith in
    let popped = last_of all c.pop.new.self.items i c.in-Some.item (ap (λ n. take n all) next ∙ sym old.left ∙ c.in-Some.ensures.items) behind in
    record {
      len = length-set cells at c.fill.new.cell ∙ len;
      outside = λ j out. get_or-set_other cells at j c.fill.new.cell Unused (⊎_elim (λ below e. omega arith) (λ past e. omega (arith, behind)) out) ∙ old.outside j out;
      unused = λ k h. get_or-set_other cells at (c.args.start + k) c.fill.new.cell Unused (λ e. omega arith) ∙ old.unused k (omega arith);
      holds = λ k from to. ⊎_elim
          (λ same. ap (λ j. cell (slice_set cells at c.fill.new.cell) (c.args.start + j)) same
          ∙ get_or-set_same cells at c.fill.new.cell Unused inside ∙ c.fill.ensures ∙ c.placed.ensures ∙ sym (laid_cell all i c.in-Some.item popped.1) ∙ ap (cell (laid all)) (sym same))
          (λ other. get_or-set_other cells at (c.args.start + k) c.fill.new.cell Unused (λ e. other (omega arith)) ∙ old.holds k (omega (arith, other)) to)
          (cases_eq k i);
      left = popped.0;
    }
