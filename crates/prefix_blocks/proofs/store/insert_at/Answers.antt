use Rattle.std.proofs.Common.{List, ◌+◌, length, ap, ◌∙◌, arith}
use Rattle.prefix_blocks.specs.declared.store.Cell.{Cell}
use Rattle.prefix_blocks.specs.Cells.{held, part}
use Rattle.prefix_blocks.proofs.PartLaws.{put_ready, all_but, inserted_by, inserted_has}
use Rattle.prefix_blocks.proofs.store.insert_at.Goals as goal

pub put_at-requires : goal.put_at-requires
put_at-requires g c =
    let l = held c.args.cells.now.items c.args.at c.args.count in
    let ready = put_ready c.grown-start.new.cells.items c.grown-start.new.free c.grown-start.result c.args.count l c.grown-start.ensures.grown.region c.grown-start.ensures.grown.holds c.requires.list c.requires.few in
    record {
      within = let r = ready.0 in let e = ap length c.deref_mut.ensures.value in omega arith;
      place = c.requires.place;
      held = all_but (part c.deref_mut.result.now c.grown-start.result (c.args.count + 1)) l
          (ap (λ (cells : List (Cell g.row.A.Denot)). part cells c.grown-start.result (c.args.count + 1)) c.deref_mut.ensures.value ∙ ready.1);
    }

pub returns-clause-inserted : goal.returns-clause-inserted
returns-clause-inserted g c =
    inserted_has c.args.cells.now.items c.grown-start.new.cells.items _ c.grown-start.new.free c.grown-start.new.free c.args.at c.args.count c.grown-start.result c.args.place c.args.item
    c.grown-start.ensures.grown
    (inserted_by c.grown-start.new.cells.items c.deref_mut.result.now c.put_at.new.cells c.grown-start.new.free c.grown-start.new.cells.len c.grown-start.result c.args.count c.args.place c.args.item
    (held c.args.cells.now.items c.args.at c.args.count) c.deref_mut.ensures.value c.grown-start.new.cells.ok.0 c.grown-start.ensures.grown.region c.grown-start.ensures.grown.holds c.requires.list c.requires.few c.requires.place c.put_at.ensures)
