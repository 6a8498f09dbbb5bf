use Rattle.std.proofs.Common.{◌+◌, ◌-◌, ◌∙◌, ◌++◌, sym, ap, subst, take, drop, length, arith}
use Rattle.std.proofs.lemmas.List.{length-take-le}
use Rattle.prefix_aggregate.specs.Parts.{KeepsParts}
use Rattle.prefix_aggregate.proofs.PartLaws.{kept_none, front_kept, front_values, moved_kept, moved_values, moved_within}
use Rattle.prefix_aggregate.proofs.parts.cut.Goals as goal

pub returns-then-added-lt-MANY-clause-kept : goal.returns-then-added-lt-MANY-clause-kept
returns-then-added-lt-MANY-clause-kept g c = front_kept c.args.start c.args.work.now.values.items

pub returns-then-end-start-clause-kept : goal.returns-then-end-start-clause-kept
returns-then-end-start-clause-kept g c = subst (KeepsParts (take c.args.start c.args.work.now.values.items)) (sym c.truncate.ensures.items) (kept_none (take c.args.start c.args.work.now.values.items))

pub returns-then-end-start-clause-within : goal.returns-then-end-start-clause-within
returns-then-end-start-clause-within g c =
    let n = ap length c.truncate.ensures.items ∙ length-take-le c.args.start c.args.work.now.values.items c.requires.start in
    let before = c.if-end-start.true in
    omega (arith, n, before)

pub returns-then-end-start-clause-values : goal.returns-then-end-start-clause-values
returns-then-end-start-clause-values g c = front_values c.args.work.now.values.items c.truncate.new.self.items c.args.work.now.values.items c.args.start c.args.part c.requires.start c.requires.part c.if-end-start.true c.truncate.ensures.items

pub returns-clause-kept : goal.returns-clause-kept
returns-clause-kept g c =
    let slice = c.deref.result.now in
    let rest = take (c.args.part.start + c.args.part.len - c.args.part.start) (drop c.args.part.start c.deref.result.now) in
    moved_kept c.args.work.now.values.items c.extend_from_slice-2.new.self.items slice c.args.start c.args.part c.requires.start c.requires.part
    (c.in_ok-extend_from_slice-2.ensures.items ∙ (λ i. c.truncate-2.ensures.items i ++ (c.deref-2.ensures.value ∙ c.in_ok-extend_from_slice.ensures.items ∙ ap (λ l. l ++ rest) c.clear.ensures.items) i)) c.deref.ensures.value

pub returns-clause-within : goal.returns-clause-within
returns-clause-within g c =
    let slice = c.deref.result.now in
    let rest = take (c.args.part.start + c.args.part.len - c.args.part.start) (drop c.args.part.start c.deref.result.now) in
    moved_within c.args.work.now.values.items c.extend_from_slice-2.new.self.items slice c.args.start c.args.part c.requires.start c.requires.part
    (c.in_ok-extend_from_slice-2.ensures.items ∙ (λ i. c.truncate-2.ensures.items i ++ (c.deref-2.ensures.value ∙ c.in_ok-extend_from_slice.ensures.items ∙ ap (λ l. l ++ rest) c.clear.ensures.items) i)) c.deref.ensures.value

pub returns-clause-values : goal.returns-clause-values
returns-clause-values g c =
    let slice = c.deref.result.now in
    let rest = take (c.args.part.start + c.args.part.len - c.args.part.start) (drop c.args.part.start c.deref.result.now) in
    moved_values c.args.work.now.values.items c.extend_from_slice-2.new.self.items slice c.args.start c.args.part c.requires.start c.requires.part
    (c.in_ok-extend_from_slice-2.ensures.items ∙ (λ i. c.truncate-2.ensures.items i ++ (c.deref-2.ensures.value ∙ c.in_ok-extend_from_slice.ensures.items ∙ ap (λ l. l ++ rest) c.clear.ensures.items) i)) c.deref.ensures.value
