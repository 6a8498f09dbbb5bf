use Rattle.std.proofs.Common.{◌≡◌, List, ◌^◌, length, sym, ap, ◌∙◌, subst, arith}
use Rattle.std.specs.Vec.{vec_len}
use Rattle.prefix_blocks.specs.Sizes.{order, size}
use Rattle.prefix_blocks.specs.declared.store.Cell.{Cell}
use Rattle.prefix_blocks.specs.Cells.{HasCells, AreUnused}
use Rattle.prefix_blocks.proofs.SizeLaws.{sized}
use Rattle.prefix_blocks.proofs.Adds.{added_by, taken_unused, taken_within}
use Rattle.prefix_blocks.proofs.store.add_list.Goals as goal

pub take_block-start-requires-clause-order : goal.take_block-start-requires-clause-order
take_block-start-requires-clause-order g c =
    let is = c.order_of.ensures ∙ ap order c.len.ensures in
    let most = (sized (vec_len c.args.items.now) c.requires.few).most in
    omega (arith, is, most)

pub take_block-start-requires-clause-room : goal.take_block-start-requires-clause-room
take_block-start-requires-clause-room g c =
    let power : size (vec_len c.args.items.now) ≡ 2 ^ c.order_of.result = (sized (vec_len c.args.items.now) c.requires.few).power ∙ ap (λ n. 2 ^ n) (sym (c.order_of.ensures ∙ ap order c.len.ensures)) in
    subst (λ n. HasCells c.args.cells.now n) power c.requires.room

pub lay-requires-clause-within : goal.lay-requires-clause-within
lay-requires-clause-within g c =
    let s = sized (vec_len c.args.items.now) c.requires.few in
    let power : size (vec_len c.args.items.now) ≡ 2 ^ c.order_of.result = s.power ∙ ap (λ n. 2 ^ n) (sym (c.order_of.ensures ∙ ap order c.len.ensures)) in
    let within = taken_within c.args.cells.now.items c.take_block-start.new.cells.items c.take_block-start.new.free c.take_block-start.result (2 ^ c.order_of.result) (vec_len c.args.items.now) c.take_block-start.ensures.taken (let fits = s.fits in omega (arith, fits, power)) in
    omega (arith, within, ap length c.deref_mut.ensures.value)

pub lay-requires-clause-unused : goal.lay-requires-clause-unused
lay-requires-clause-unused g c =
    let s = sized (vec_len c.args.items.now) c.requires.few in
    let power : size (vec_len c.args.items.now) ≡ 2 ^ c.order_of.result = s.power ∙ ap (λ n. 2 ^ n) (sym (c.order_of.ensures ∙ ap order c.len.ensures)) in
    subst (λ (cells : List (Cell g.row.A.Denot)). AreUnused cells c.take_block-start.result (vec_len c.args.items.now)) (sym c.deref_mut.ensures.value)
    (taken_unused c.args.cells.now.items c.take_block-start.new.cells.items c.take_block-start.new.free c.take_block-start.result (2 ^ c.order_of.result) (vec_len c.args.items.now) c.take_block-start.ensures.taken (let fits = s.fits in omega (arith, fits, power)))

pub returns-clause-added : goal.returns-clause-added
returns-clause-added g c =
    let ok = c.args.items.now.ok.0 in
    let power : 2 ^ c.order_of.result ≡ size (length c.args.items.now.items) = ap (λ n. 2 ^ n) (c.order_of.ensures ∙ ap order c.len.ensures) ∙ sym (sized (vec_len c.args.items.now) c.requires.few).power ∙ ap size ok in
    let some = c.requires.some in
    let few = c.requires.few in
    added_by c.args.cells.now.items c.take_block-start.new.cells.items c.deref_mut.result.now c.lay.new.cells c.take_block-start.new.free c.take_block-start.new.cells.len c.take_block-start.result (2 ^ c.order_of.result) c.args.items.now.items
    c.take_block-start.ensures.taken power (omega (arith, ok, some)) (omega (arith, ok, few)) c.deref_mut.ensures.value c.take_block-start.new.cells.ok.0 c.lay.ensures.laid

pub returns-clause-len : goal.returns-clause-len
returns-clause-len g c =
    let power : size (vec_len c.args.items.now) ≡ 2 ^ c.order_of.result = (sized (vec_len c.args.items.now) c.requires.few).power ∙ ap (λ n. 2 ^ n) (sym (c.order_of.ensures ∙ ap order c.len.ensures)) in
    let len = c.take_block-start.ensures.len in
    omega (arith, len, power)
