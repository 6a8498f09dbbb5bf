use Rattle.std.proofs.Common.{◌^◌, ◌∙◌, sym, refl, arith}
use Rattle.std.proofs.lemmas.Nat.{pow_pos, one_shl}
use Rattle.prefix_blocks.proofs.Takes.{popped_by, popped_taken, added_taken}
use Rattle.prefix_blocks.proofs.store.take_block.Goals as goal

pub returns-then-start-clause-taken : goal.returns-then-start-clause-taken
returns-then-start-clause-taken g c =
    let room = c.requires.room in
    let len = c.args.cells.now.ok.0 in
    added_taken c.args.cells.now.items c.add_block.new.cells.items c.args.free.now _ c.add_block.result (2 ^ c.args.order) c.requires.sound c.add_block.ensures.cells
    (let o = c.requires.order in one_shl c.args.order 32 (omega arith)) (pow_pos c.args.order) (omega arith) (c.add_block.ensures.start ∙ len)

pub returns-clause-taken : goal.returns-clause-taken
returns-clause-taken g c =
    let sound = c.requires.sound in
    popped_taken sound.extent c.args.cells.now.items _ c.args.free.now _ _ c.args.order c.in-Free.next sound.tiled
    (popped_by sound.extent c.args.cells.now.items c.args.free.now _ c.args.order c.in-Free.next c.replace.new.dest c.index_mut.result.now sound.tiled c.requires.order refl
    c.if-start.false c.replace.ensures.after c.index_mut.ensures.value (sym c.replace.ensures.value ∙ c.in-Free.is))
