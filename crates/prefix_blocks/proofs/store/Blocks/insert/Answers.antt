use Rattle.std.proofs.Common.{List, length, sym, ap, ◌∙◌, arith}
use Rattle.std.specs.List.{insert}
use Rattle.std.specs.FinMap as map
use Rattle.std.specs.Ordering.{nat_cmp}
use Rattle.prefix_blocks.specs.Blocks.{BlocksView, held_by, without}
use Rattle.prefix_blocks.proofs.ListsLaws.{held_is_by, get_without, lists_inserted}
use Rattle.prefix_blocks.proofs.store.Blocks.insert.Goals as goal

pub insert_at-requires : goal.insert_at-requires
insert_at-requires g c =
    let cells = c.self.inside.cells.items in
    let lists = ap (λ (v : BlocksView g.row.A.Denot). v.lists) c.self.view_is in
    record {
      few = c.requires.few;
      place = c.requires.place;
      sound = c.self.invariant;
      list = ap length (sym (held_is_by cells c.args.at c.args.count) ∙ ap (λ (m : map.FinMap nat_cmp (List g.row.A.Denot)). held_by m c.args.at c.args.count) lists) ∙ c.requires.list;
      room = let r = ap (λ (v : BlocksView g.row.A.Denot). v.room) c.self.view_is in let n = c.requires.room in let few = c.self.invariant.tiled.few in let ok = c.self.inside.cells.ok in omega arith;
    }

pub returns : goal.returns
returns g c =
    let cells = c.self.inside.cells.items in
    let lists = ap (λ (v : BlocksView g.row.A.Denot). v.lists) c.self.view_is in
    record {
      lists = lists_inserted cells c.insert_at.new.cells.items c.args.at c.args.count c.insert_at.result c.args.place c.args.item c.insert_at.ensures.inserted.list c.insert_at.ensures.inserted.others
          ∙ ap (λ (m : map.FinMap nat_cmp (List g.row.A.Denot)). map.insert (without m c.args.at c.args.count) c.insert_at.result (insert (held_by m c.args.at c.args.count) c.args.place c.args.item)) lists;
      fresh = ap (λ (m : map.FinMap nat_cmp (List g.row.A.Denot)). map.get (without m c.args.at c.args.count) c.insert_at.result) (sym lists)
          ∙ get_without cells c.args.at c.args.count c.insert_at.result ∙ c.insert_at.ensures.inserted.fresh;
      room = let r = ap (λ (v : BlocksView g.row.A.Denot). v.room) c.self.view_is in let len = c.insert_at.ensures.len in let cap = c.insert_at.ensures.capacity in omega arith;
    }
