use Rattle.std.proofs.Common.{List, length, sym, ap, ◌∙◌, subst, arith}
use Rattle.std.specs.Prelude.{slice_get}
use Rattle.std.specs.List.{remove}
use Rattle.std.specs.FinMap as map
use Rattle.std.specs.Ordering.{nat_cmp}
use Rattle.prefix_blocks.specs.declared.store.Cell.{Cell}
use Rattle.prefix_blocks.specs.Blocks.{BlocksView, list_named, with_list}
use Rattle.prefix_blocks.specs.Cells.{held, IsSound}
use Rattle.prefix_blocks.proofs.ListsLaws.{held_named, lists_removed}
use Rattle.prefix_blocks.proofs.store.Blocks.remove.Goals as goal

pub remove_at-requires : goal.remove_at-requires
remove_at-requires g c =
    let cells = c.self.inside.cells.items in
    let lists = ap (λ (v : BlocksView g.row.A.Denot). v.lists) c.self.view_is in
    record {
      sound = subst (λ (cells : List (Cell g.row.A.Denot)). IsSound cells c.self.inside.free) (sym c.deref_mut.ensures.value) c.self.invariant;
      list = ap length (ap (λ (cells : List (Cell g.row.A.Denot)). held cells c.args.at c.args.count) c.deref_mut.ensures.value
          ∙ held_named cells c.args.at c.args.count (let p = c.requires.place in omega arith)
          ∙ ap (λ (m : map.FinMap nat_cmp (List g.row.A.Denot)). list_named m c.args.at) lists) ∙ c.requires.list;
      place = c.requires.place;
    }

pub returns : goal.returns
returns g c =
    let cells = c.self.inside.cells.items in
    let lists = ap (λ (v : BlocksView g.row.A.Denot). v.lists) c.self.view_is in
    record {
      value = ap (λ (l : List g.row.A.Denot). slice_get l c.args.place) (sym (ap (λ (cells : List (Cell g.row.A.Denot)). held cells c.args.at c.args.count) c.deref_mut.ensures.value
          ∙ held_named cells c.args.at c.args.count (let p = c.requires.place in omega arith)
          ∙ ap (λ (m : map.FinMap nat_cmp (List g.row.A.Denot)). list_named m c.args.at) lists)) ∙ c.remove_at.ensures.value;
      lists = lists_removed cells c.deref_mut.result.now c.remove_at.new.cells c.self.inside.cells.len c.args.at c.args.count c.args.place c.deref_mut.ensures.value c.self.inside.cells.ok.0
          c.remove_at.ensures.len (let p = c.requires.place in omega arith) c.remove_at.ensures.list c.remove_at.ensures.others
          ∙ ap (λ (m : map.FinMap nat_cmp (List g.row.A.Denot)). with_list m c.args.at (remove (list_named m c.args.at) c.args.place)) lists;
      room = let r = ap (λ (v : BlocksView g.row.A.Denot). v.room) c.self.view_is in omega arith;
    }
