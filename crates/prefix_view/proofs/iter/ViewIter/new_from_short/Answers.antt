use Rattle.std.proofs.Common.{inl, inr, ap, sym, ◌∙◌, refl, arith, take, length, length-take}
use Rattle.std.specs.declared.cmp.Ordering.TheVariants.{Less}
use Rattle.prefix_view.specs.Iteration.{left_from}
use Rattle.prefix_view.proofs.FromKeys.{compared_fronts, all_before, not_before_short}
use Rattle.prefix_view.proofs.iter.ViewIter.new_from_short.Goals as goal

pub returns-in-Less-clause-left : goal.returns-in-Less-clause-left
returns-in-Less-clause-left g c =
    let v = g.V.TrieView.seen c.args.view in
    let bits = g.V.P.R.Bits.bits c.args.key in
    let q = take c.args.len bits in
    let t0 = length-take c.args.len bits in
    let all = g.met.V.P.R.Bits.length_law c.args.key in
    let width = c.requires.width in
    let short = c.requires.short in
    let cmp = compared_fronts v.place _ (g.V.P.R.Bits.bits c.key.result) bits c.args.len (length v.place) c.args.len Less Less c.key.ensures refl (omega (arith, short)) (omega arith) (c.in-Less.ensures) refl in
    ap (left_from v (take c.ended.result.len (g.V.P.R.Bits.bits c.ended.result.key)) c.ended.result.inclusive) c.ended.ensures.done
    ∙ sym (all_before v.entries v.place q c.args._inclusive c.args.len (omega (arith, short)) (omega (arith, t0, all, width)) cmp)

pub returns-clause-left : goal.returns-clause-left
returns-clause-left g c =
    let v = g.V.TrieView.seen c.args.view in
    let bits = g.V.P.R.Bits.bits c.args.key in
    let q = take c.args.len bits in
    let t0 = length-take c.args.len bits in
    let all = g.met.V.P.R.Bits.length_law c.args.key in
    let width = c.requires.width in
    let short = c.requires.short in
    let r = c.order_of_fronts.result in
    let cmp = compared_fronts v.place _ (g.V.P.R.Bits.bits c.key.result) bits c.args.len (length v.place) c.args.len r r c.key.ensures refl (omega (arith, short)) (omega arith) c.order_of_fronts.ensures refl in
    c.new.ensures.left
    ∙ sym (not_before_short v.entries v.place q c.args._inclusive c.args.len (omega (arith, t0, all, width)) (omega (arith, t0, all, width, short)) r cmp (λ z. elim c.in-Equal.is [ inl e ↦ cc | inr e ↦ cc ]))
