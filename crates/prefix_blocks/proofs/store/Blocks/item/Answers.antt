use Rattle.std.proofs.Common.{◌<◌, length, sym, ap, ◌∙◌, subst, arith}
use Rattle.std.specs.Prelude.{slice_get}
use Rattle.prefix_blocks.specs.Blocks.{BlocksView, list_named}
use Rattle.prefix_blocks.specs.Cells.{lists_of}
use Rattle.prefix_blocks.proofs.ItemLaws.{place_named, read_some, read_item}
use Rattle.prefix_blocks.proofs.store.Blocks.item.Goals as goal

pub overflow_add-at : goal.overflow_add-at
overflow_add-at g c =
    let p = place_named c.self.inside.cells.items c.self.inside.free c.args.at c.args.place c.self.invariant
    (subst (λ (v : BlocksView g.row.A.Denot). c.args.place < length (list_named v.lists c.args.at)) (sym c.self.view_is) c.requires) in
    let w = p.within in let f = p.few in omega arith

pub index-requires : goal.index-requires
index-requires g c =
    let p = place_named c.self.inside.cells.items c.self.inside.free c.args.at c.args.place c.self.invariant
    (subst (λ (v : BlocksView g.row.A.Denot). c.args.place < length (list_named v.lists c.args.at)) (sym c.self.view_is) c.requires) in
    let w = p.within in let ok = c.self.inside.cells.ok.0 in omega arith

pub item-requires : goal.item-requires
item-requires g c =
    let l = list_named (lists_of c.self.inside.cells.items) c.args.at in
    let p = place_named c.self.inside.cells.items c.self.inside.free c.args.at c.args.place c.self.invariant
    (subst (λ (v : BlocksView g.row.A.Denot). c.args.place < length (list_named v.lists c.args.at)) (sym c.self.view_is) c.requires) in
    read_some c.self.inside.cells.items c.args.at c.args.place l c.index.result.now p c.index.ensures

pub returns : goal.returns
returns g c =
    let l = list_named (lists_of c.self.inside.cells.items) c.args.at in
    let p = place_named c.self.inside.cells.items c.self.inside.free c.args.at c.args.place c.self.invariant
    (subst (λ (v : BlocksView g.row.A.Denot). c.args.place < length (list_named v.lists c.args.at)) (sym c.self.view_is) c.requires) in
    ap (λ (v : BlocksView g.row.A.Denot). slice_get (list_named v.lists c.args.at) c.args.place) (sym c.self.view_is)
    ∙ read_item c.self.inside.cells.items c.args.at c.args.place l c.index.result.now p c.index.ensures ∙ c.item.ensures
