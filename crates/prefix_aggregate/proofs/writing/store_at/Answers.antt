use Rattle.std.proofs.Common.{sym, ap, ◌∙◌, subst, cond, None}
use Rattle.std.specs.Prelude.{◌==◌}
use Rattle.std.specs.Option.{option_copied}
use Rattle.prefix_model.specs.TableViews.{key_of}
use Rattle.prefix_model.specs.Building.{insert_all}
use Rattle.prefix_model.specs.LeastTable.{entry, stored, inherited}
use Rattle.prefix_aggregate.specs.Lists.{at, NoneIsHole}
use Rattle.prefix_aggregate.specs.Reading.{list_of}
use Rattle.prefix_aggregate.proofs.AnswerLaws.{if_ok}
use Rattle.prefix_aggregate.proofs.ConsistentLaws.{on_ok}
use Rattle.prefix_aggregate.proofs.StoringLaws.{bit_set, list_read}
use Rattle.prefix_aggregate.proofs.writing.store_at.Goals as goal

pub store_list-requires-clause-list : goal.store_list-requires-clause-list
store_list-requires-clause-list g c =
    subst NoneIsHole (sym (list_read c.args.sets.now c.args.node.now c.args.place _ c.list_at-list.ensures)) (c.requires.list (bit_set c.args.node.now.mask c.args.place c.if-node-place-eq0.false))

pub returns-clause-entries : goal.returns-clause-entries
returns-clause-entries g c =
    let v = option_copied c.args.above in
    on_ok c.store_list.result c.store_list.ensures.entries (λ e. e
    ∙ ap (λ s. insert_all c.args.least.now.entries (at (key_of (g.R.Bits.bits c.args.key) c.args.len) (entry s)))
    (ap (λ l. stored g.T.Ord.cmp l v) (list_read c.args.sets.now c.args.node.now c.args.place _ c.list_at-list.ensures)
    ∙ ap (λ d. cond (d == 1) (stored g.T.Ord.cmp (list_of c.args.sets.now c.args.node.now c.args.place) v) None) (sym (bit_set c.args.node.now.mask c.args.place c.if-node-place-eq0.false))))

pub returns-clause-given : goal.returns-clause-given
returns-clause-given g c =
    let v = option_copied c.args.above in
    if_ok c.store_list.result c.store_list.ensures.given (λ given e. e
    ∙ ap (λ l. inherited g.T.Ord.cmp l v) (list_read c.args.sets.now c.args.node.now c.args.place _ c.list_at-list.ensures)
    ∙ ap (λ d. cond (d == 1) (inherited g.T.Ord.cmp (list_of c.args.sets.now c.args.node.now c.args.place) v) v) (sym (bit_set c.args.node.now.mask c.args.place c.if-node-place-eq0.false)))
