use Rattle.std.proofs.Common.{sym, ap, ◌∙◌, arith}
use Rattle.std.specs.Prelude.{slice_get}
use Rattle.prefix_blocks.specs.Cells.{items_of, part, held}
use Rattle.prefix_blocks.proofs.Grows.{held_list}
use Rattle.prefix_blocks.proofs.WindowLaws.{items_laid}
use Rattle.prefix_blocks.proofs.PartLaws.{take_ready, all_laid, removed_put, removed_release}
use Rattle.prefix_blocks.proofs.store.remove_at.Goals as goal

pub take_at-item-requires : goal.take_at-item-requires
take_at-item-requires g c =
    let l = held c.args.cells.now c.args.at c.args.count in
    let ready = take_ready c.args.cells.now c.args.free.now c.args.at c.args.count l c.requires.sound
    (held_list c.args.cells.now c.args.at c.args.count (let p = c.requires.place in omega arith) c.requires.list) c.requires.list in
    record { within = ready.0; place = c.requires.place; held = all_laid (part c.args.cells.now c.args.at c.args.count) l ready.1 }

pub release-requires : goal.release-requires
release-requires g c =
    removed_release c.args.cells.now c.take_at-item.new.cells c.args.free.now c.args.at c.args.count c.args.place c.requires.sound c.requires.list c.requires.place c.take_at-item.ensures.cells

pub returns-clause-value : goal.returns-clause-value
returns-clause-value g c =
    let l = held c.args.cells.now c.args.at c.args.count in
    let ready = take_ready c.args.cells.now c.args.free.now c.args.at c.args.count l c.requires.sound
    (held_list c.args.cells.now c.args.at c.args.count (let p = c.requires.place in omega arith) c.requires.list) c.requires.list in
    ap (λ l. slice_get l c.args.place) (sym (ap items_of ready.1 ∙ items_laid l)) ∙ c.take_at-item.ensures.value

pub returns-clause-list : goal.returns-clause-list
returns-clause-list g c =
    c.release.ensures.lists c.args.at
    ∙ (removed_put c.args.cells.now c.take_at-item.new.cells c.args.free.now c.args.at c.args.count c.args.place c.requires.sound c.requires.list c.requires.place c.take_at-item.ensures.cells).list

pub returns-clause-others : goal.returns-clause-others
returns-clause-others g c = λ m ne.
    c.release.ensures.lists m
    ∙ (removed_put c.args.cells.now c.take_at-item.new.cells c.args.free.now c.args.at c.args.count c.args.place c.requires.sound c.requires.list c.requires.place c.take_at-item.ensures.cells).others m ne
