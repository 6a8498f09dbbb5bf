use Rattle.std.proofs.Common.{◌≡◌, ◌∙◌, ap, length, arith, Some}
use Rattle.prefix_aggregate.specs.ChangeSets.{ChangeLists}
use Rattle.prefix_aggregate.specs.Stacks.{kept_lists}
use Rattle.prefix_aggregate.proofs.StackLaws.{length-kept, list_read, none_read, some_read}
use Rattle.prefix_aggregate.proofs.sets.ChangeSets.list.Goals as goal

pub overflow_sub-number-2 : goal.overflow_sub-number-2
overflow_sub-number-2 g c =
    let seen : length (kept_lists c.self.inside.stacks) ≡ length c.args.self.now.lists = ap (λ (v : ChangeLists g.row.T.Denot). length v.lists) c.self.view_is in
    let size = length-kept c.self.inside.stacks in
    let ends = c.self.inside.stacks.ends.ok.0 in
    let count = c.len.ensures in
    let within = c.requires in
    omega (arith, seen, size, ends, count, within)

pub returns-then-is_empty : goal.returns-then-is_empty
returns-then-is_empty g c =
    list_read c.self.inside.stacks c.args.self.now.lists c.deref-2.result.now c.deref.result.now c.piece-list.result.now c.args.i c.len.result (ap (λ (v : ChangeLists g.row.T.Denot). v.lists) c.self.view_is) c.requires
    (c.len.ensures ∙ c.self.inside.stacks.ends.ok.0) c.deref-2.ensures.value c.deref.ensures.value c.piece-list.ensures
    ∙ ap (λ o. Some o) (none_read c.piece-list.result.now c.if-is_empty.ensures)

pub returns-else-is_empty : goal.returns-else-is_empty
returns-else-is_empty g c =
    list_read c.self.inside.stacks c.args.self.now.lists c.deref-2.result.now c.deref.result.now c.piece-list.result.now c.args.i c.len.result (ap (λ (v : ChangeLists g.row.T.Denot). v.lists) c.self.view_is) c.requires
    (c.len.ensures ∙ c.self.inside.stacks.ends.ok.0) c.deref-2.ensures.value c.deref.ensures.value c.piece-list.ensures
    ∙ ap (λ o. Some o) (some_read c.piece-list.result.now c.if-is_empty.ensures)
