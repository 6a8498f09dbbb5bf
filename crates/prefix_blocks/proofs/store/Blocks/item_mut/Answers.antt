use Rattle.std.proofs.Common.{List, ◌-◌, ◌^◌, ◌<◌, length, refl, sym, ap, ◌∙◌, subst, arith}
use Rattle.std.specs.Prelude.{slice_get, min}
use Rattle.std.specs.FinMap as map
use Rattle.std.specs.Ordering.{nat_cmp}
use Rattle.prefix_blocks.specs.Blocks.{BlocksView, list_named, with_item}
use Rattle.prefix_blocks.specs.Cells.{lists_of}
use Rattle.prefix_blocks.proofs.ItemLaws.{place_named, read_some, read_item, refilled_put, refilled_lists}
use Rattle.prefix_blocks.proofs.store.Blocks.item_mut.Goals as goal

pub overflow_add-at : goal.overflow_add-at
overflow_add-at g c =
    let p = place_named c.self.inside.cells.items c.self.inside.free c.args.at c.args.place c.self.invariant
    (subst (λ (v : BlocksView g.row.A.Denot). c.args.place < length (list_named v.lists c.args.at)) (sym c.self.view_is) c.requires) in
    let w = p.within in let f = p.few in omega arith

pub index_mut-requires : goal.index_mut-requires
index_mut-requires g c =
    let p = place_named c.self.inside.cells.items c.self.inside.free c.args.at c.args.place c.self.invariant
    (subst (λ (v : BlocksView g.row.A.Denot). c.args.place < length (list_named v.lists c.args.at)) (sym c.self.view_is) c.requires) in
    let w = p.within in let ok = c.self.inside.cells.ok.0 in omega arith

pub item_mut-requires : goal.item_mut-requires
item_mut-requires g c =
    let l = list_named (lists_of c.self.inside.cells.items) c.args.at in
    let p = place_named c.self.inside.cells.items c.self.inside.free c.args.at c.args.place c.self.invariant
    (subst (λ (v : BlocksView g.row.A.Denot). c.args.place < length (list_named v.lists c.args.at)) (sym c.self.view_is) c.requires) in
    read_some c.self.inside.cells.items c.args.at c.args.place l c.index_mut.result.now p c.index_mut.ensures.value

pub invariant_of-self-lent : goal.invariant_of-self-lent
invariant_of-self-lent g c w =
    let l = list_named (lists_of c.self.inside.cells.items) c.args.at in
    let p = place_named c.self.inside.cells.items c.self.inside.free c.args.at c.args.place c.self.invariant
    (subst (λ (v : BlocksView g.row.A.Denot). c.args.place < length (list_named v.lists c.args.at)) (sym c.self.view_is) c.requires) in
    (refilled_put c.self.inside.cells.items c.self.inside.free c.args.at c.args.place l c.index_mut.result.now w c.self.invariant p c.index_mut.ensures.value).sound

pub returns : goal.returns
returns g c =
    let l = list_named (lists_of c.self.inside.cells.items) c.args.at in
    let p = place_named c.self.inside.cells.items c.self.inside.free c.args.at c.args.place c.self.invariant
    (subst (λ (v : BlocksView g.row.A.Denot). c.args.place < length (list_named v.lists c.args.at)) (sym c.self.view_is) c.requires) in
    let seen : map.FinMap nat_cmp (List g.row.A.Denot) → BlocksView g.row.A.Denot = λ m. record { lists = m; room = min c.self.inside.cells.cap (2 ^ 32 - 1) - c.self.inside.cells.len } in (
      (
        refl,
        λ w.
            ap seen (refilled_lists c.self.inside.cells.items c.self.inside.free c.args.at c.args.place l c.index_mut.result.now w c.self.invariant p c.index_mut.ensures.value)
            ∙ ap (λ (v : BlocksView g.row.A.Denot). with_item v c.args.at c.args.place w) c.self.view_is,
      ),
      record {
        writes_back = tt;
        value = ap (λ (v : BlocksView g.row.A.Denot). slice_get (list_named v.lists c.args.at) c.args.place) (sym c.self.view_is)
            ∙ read_item c.self.inside.cells.items c.args.at c.args.place l c.index_mut.result.now p c.index_mut.ensures.value ∙ c.item_mut.ensures.value;
      },
    )
