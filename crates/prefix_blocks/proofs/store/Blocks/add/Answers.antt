use Rattle.std.proofs.Common.{List, sym, ap, ◌∙◌, arith}
use Rattle.std.specs.FinMap as map
use Rattle.std.specs.Ordering.{nat_cmp}
use Rattle.prefix_blocks.specs.Blocks.{BlocksView}
use Rattle.prefix_blocks.proofs.ListsLaws.{get-lists_of, lists_added}
use Rattle.prefix_blocks.proofs.store.Blocks.add.Goals as goal

pub add_list-requires-clause-room : goal.add_list-requires-clause-room
add_list-requires-clause-room g c =
    let r = ap (λ (v : BlocksView g.row.A.Denot). v.room) c.self.view_is in
    let n = c.requires.room in
    let few = c.self.invariant.tiled.few in
    let ok = c.self.inside.cells.ok in
    omega arith

pub returns-clause-lists : goal.returns-clause-lists
returns-clause-lists g c =
    let cells = c.self.inside.cells.items in
    let lists = ap (λ (v : BlocksView g.row.A.Denot). v.lists) c.self.view_is in
    lists_added cells c.add_list.new.cells.items c.add_list.result c.args.items.now.items c.add_list.ensures.added.list c.add_list.ensures.added.others
    ∙ ap (λ (m : map.FinMap nat_cmp (List g.row.A.Denot)). map.insert m c.add_list.result c.args.items.now.items) lists

pub returns-clause-fresh : goal.returns-clause-fresh
returns-clause-fresh g c =
    let cells = c.self.inside.cells.items in
    let lists = ap (λ (v : BlocksView g.row.A.Denot). v.lists) c.self.view_is in
    ap (λ (m : map.FinMap nat_cmp (List g.row.A.Denot)). map.get m c.add_list.result) (sym lists) ∙ get-lists_of cells c.add_list.result ∙ c.add_list.ensures.added.fresh

pub returns-clause-room : goal.returns-clause-room
returns-clause-room g c =
    let r = ap (λ (v : BlocksView g.row.A.Denot). v.room) c.self.view_is in
    let len = c.add_list.ensures.len in
    let cap = c.add_list.ensures.capacity in
    omega arith
