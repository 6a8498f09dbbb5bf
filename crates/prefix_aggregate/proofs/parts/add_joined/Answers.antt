use Rattle.std.proofs.Common.{◌∙◌, sym, ap, subst, ◌++◌}
use Rattle.std.specs.List.Sorted.{IsStrictlySortedBy}
use Rattle.prefix_aggregate.proofs.PartLaws.{slice_values, left_told, added_told, added_part, kept_more}
use Rattle.prefix_aggregate.proofs.parts.add_joined.Goals as goal

pub both_or_either-requires-clause-left : goal.both_or_either-requires-clause-left
both_or_either-requires-clause-left g c = subst (IsStrictlySortedBy g.T.Ord.cmp) (sym (slice_values c.args.work.now.values.items c.deref.result.now c.args.left.start c.args.left.len c.deref.ensures.value)) c.requires.left.ascends

pub both_or_either-requires-clause-right : goal.both_or_either-requires-clause-right
both_or_either-requires-clause-right g c = subst (IsStrictlySortedBy g.T.Ord.cmp) (sym (slice_values c.args.work.now.values.items c.deref-2.result.now c.args.right.start c.args.right.len c.deref-2.ensures.value)) c.requires.right.ascends

pub returns-then-branch-clause-joined : goal.returns-then-branch-clause-joined
returns-then-branch-clause-joined g c =
    left_told g.T.Ord.cmp c.args.work.now.values.items c.args.left c.args.right c.deref.result.now c.deref-2.result.now c.deref.ensures.value c.deref-2.ensures.value c.both_or_either.new.out.items c.in_ok-both_or_either.ensures.values
    c.requires.left c.requires.right c.requires.some_left c.requires.some_right (c.in_ok-both_or_either.ensures.whole c.if-branch.true)

pub returns-clause-kept : goal.returns-clause-kept
returns-clause-kept g c = kept_more c.args.work.now.values.items c.extend_from_slice.new.self.items c.deref-3.result.now c.in_ok-extend_from_slice.ensures.items

pub returns-clause-part : goal.returns-clause-part
returns-clause-part g c =
    added_part g.T.Ord.cmp c.args.work.now.values.items c.args.left c.args.right c.deref.result.now c.deref-2.result.now c.deref.ensures.value c.deref-2.ensures.value c.both_or_either.new.out.items c.in_ok-both_or_either.ensures.values
    c.requires.left c.requires.right c.requires.some_left c.requires.some_right g.met.T.Ord.total c.extend_from_slice.new.self.items c.len-start.result c.len.result
    (c.in_ok-extend_from_slice.ensures.items ∙ ap (λ l. c.args.work.now.values.items ++ l) c.deref-3.ensures.value) (c.len-start.ensures ∙ c.args.work.now.values.ok.0) (c.len.ensures ∙ c.both_or_either.new.out.ok.0)

pub returns-clause-joined : goal.returns-clause-joined
returns-clause-joined g c =
    added_told g.T.Ord.cmp c.args.work.now.values.items c.args.left c.args.right c.deref.result.now c.deref-2.result.now c.deref.ensures.value c.deref-2.ensures.value c.both_or_either.new.out.items c.in_ok-both_or_either.ensures.values
    c.requires.left c.requires.right c.requires.some_left c.requires.some_right g.met.T.Ord.total c.extend_from_slice.new.self.items c.len-start.result c.len.result
    (c.in_ok-extend_from_slice.ensures.items ∙ ap (λ l. c.args.work.now.values.items ++ l) c.deref-3.ensures.value) (c.len-start.ensures ∙ c.args.work.now.values.ok.0) (c.len.ensures ∙ c.both_or_either.new.out.ok.0)
