use Rattle.std.proofs.Common.{◌∙◌, sym}
use Rattle.std.specs.Ordering.{is_eq, is_lt}
use Rattle.prefix_aggregate.proofs.AnswerLaws.{if_ok, together}
use Rattle.prefix_aggregate.proofs.PartLaws.{kept_none, one_told, pair_told, pair_part, same_order, first_order, last_order}
use Rattle.prefix_aggregate.proofs.parts.join_values.Goals as goal

pub returns-then-is_eq-clause-kept : goal.returns-then-is_eq-clause-kept
returns-then-is_eq-clause-kept g c = kept_none c.args.work.now.values.items

pub returns-then-is_eq-clause-joined : goal.returns-then-is_eq-clause-joined
returns-then-is_eq-clause-joined g c =
    one_told g.met.T.Ord.total c.args.work.now.values.items c.args.left c.args.right c.requires.left c.requires.right c.requires.one_left c.requires.one_right c.index-first.result.now c.index-second.result.now c.index-first.ensures c.index-second.ensures
    (sym c.cmp-order.ensures ∙ same_order c.cmp-order.result (sym c.is_eq.ensures ∙ c.if-is_eq.true))

pub returns-then-is_lt-clause-part : goal.returns-then-is_lt-clause-part
returns-then-is_lt-clause-part g c =
    together c.add_two.result c.add_two.ensures.kept c.add_two.ensures.within c.add_two.ensures.values (λ part _ within values.
    pair_part g.met.T.Ord.total c.args.work.now.values.items c.args.left c.args.right c.requires.left c.requires.right c.requires.one_left c.requires.one_right c.index-first.result.now c.index-second.result.now c.index-first.ensures c.index-second.ensures
    _ (sym c.cmp-order.ensures ∙ first_order c.cmp-order.result (sym c.is_lt.ensures ∙ c.if-is_lt.true)) c.add_two.new.work.values.items part values within)

pub returns-then-is_lt-clause-joined : goal.returns-then-is_lt-clause-joined
returns-then-is_lt-clause-joined g c =
    if_ok c.add_two.result c.add_two.ensures.values (λ part values.
    pair_told g.met.T.Ord.total c.args.work.now.values.items c.args.left c.args.right c.requires.left c.requires.right c.requires.one_left c.requires.one_right c.index-first.result.now c.index-second.result.now c.index-first.ensures c.index-second.ensures
    _ (sym c.cmp-order.ensures ∙ first_order c.cmp-order.result (sym c.is_lt.ensures ∙ c.if-is_lt.true)) c.add_two.new.work.values.items part values)

pub returns-clause-part : goal.returns-clause-part
returns-clause-part g c =
    together c.add_two-2.result c.add_two-2.ensures.kept c.add_two-2.ensures.within c.add_two-2.ensures.values (λ part _ within values.
    pair_part g.met.T.Ord.total c.args.work.now.values.items c.args.left c.args.right c.requires.left c.requires.right c.requires.one_left c.requires.one_right c.index-first.result.now c.index-second.result.now c.index-first.ensures c.index-second.ensures
    _ (sym c.cmp-order.ensures ∙ last_order c.cmp-order.result (sym c.is_eq.ensures ∙ c.if-is_eq.false) (sym c.is_lt.ensures ∙ c.if-is_lt.false)) c.add_two-2.new.work.values.items part values within)

pub returns-clause-joined : goal.returns-clause-joined
returns-clause-joined g c =
    if_ok c.add_two-2.result c.add_two-2.ensures.values (λ part values.
    pair_told g.met.T.Ord.total c.args.work.now.values.items c.args.left c.args.right c.requires.left c.requires.right c.requires.one_left c.requires.one_right c.index-first.result.now c.index-second.result.now c.index-first.ensures c.index-second.ensures
    _ (sym c.cmp-order.ensures ∙ last_order c.cmp-order.result (sym c.is_eq.ensures ∙ c.if-is_eq.false) (sym c.is_lt.ensures ∙ c.if-is_lt.false)) c.add_two-2.new.work.values.items part values)
