use Rattle.std.proofs.Common.{◌≤◌, ap, sym, ◌∙◌, refl, arith, take, take_all, length-take}
use Rattle.std.specs.declared.cmp.Ordering.TheVariants.{Less, Equal, Greater}
use Rattle.prefix_model.specs.Keys.{key_cmp}
use Rattle.prefix_view.specs.Iteration.{left_from}
use Rattle.prefix_view.proofs.FromKeys.{compared_fronts, all_before, all_behind, same_fronts}
use Rattle.prefix_view.proofs.iter.ViewIter.new_from.Goals as goal

pub returns-in-Less-clause-left : goal.returns-in-Less-clause-left
returns-in-Less-clause-left g c =
    let v = g.V.TrieView.seen c.args.view in
    let bits = g.V.P.R.Bits.bits c.args.key in
    let q = take c.args.len bits in
    let n = c.prefix_len-place_len.result in
    let t0 = length-take c.args.len bits in
    let all = g.met.V.P.R.Bits.length_law c.args.key in
    let width = c.requires in
    let within : n ≤ c.args.len = omega arith in
    let whole = c.prefix_len-place_len.ensures in
    let cmp = compared_fronts v.place _ (g.V.P.R.Bits.bits c.key.result) bits n n c.args.len Less Less c.key.ensures whole (omega arith) within (c.in-Less.ensures) refl in
    ap (left_from v (take c.ended.result.len (g.V.P.R.Bits.bits c.ended.result.key)) c.ended.result.inclusive) c.ended.ensures.done
    ∙ sym (all_before v.entries v.place q c.args.inclusive n (omega (arith, whole)) (omega (arith, t0, all, width, within)) cmp)

pub returns-in-Greater-clause-left : goal.returns-in-Greater-clause-left
returns-in-Greater-clause-left g c =
    let v = g.V.TrieView.seen c.args.view in
    let bits = g.V.P.R.Bits.bits c.args.key in
    let q = take c.args.len bits in
    let n = c.prefix_len-place_len.result in
    let t0 = length-take c.args.len bits in
    let all = g.met.V.P.R.Bits.length_law c.args.key in
    let width = c.requires in
    let within : n ≤ c.args.len = omega arith in
    let whole = c.prefix_len-place_len.ensures in
    let cmp = compared_fronts v.place _ (g.V.P.R.Bits.bits c.key.result) bits n n c.args.len Greater Greater c.key.ensures whole (omega arith) within (c.in-Greater.ensures) refl in
    c.new.ensures.left ∙ sym (all_behind v.entries v.place q c.args.inclusive n (omega (arith, whole)) (omega (arith, t0, all, width, within)) cmp)

pub invariant_of-result-clause-extends : goal.invariant_of-result-clause-extends
invariant_of-result-clause-extends g c =
    let v = g.V.TrieView.seen c.args.view in
    let bits = g.V.P.R.Bits.bits c.args.key in
    let q = take c.args.len bits in
    let n = c.prefix_len-place_len.result in
    let t0 = length-take c.args.len bits in
    let all = g.met.V.P.R.Bits.length_law c.args.key in
    let width = c.requires in
    let within : n ≤ c.args.len = omega arith in
    let whole = c.prefix_len-place_len.ensures in
    let cmp = compared_fronts v.place _ (g.V.P.R.Bits.bits c.key.result) bits n n c.args.len Equal Equal c.key.ensures whole (omega arith) within (c.in-Equal.ensures) refl in
    same_fronts v.place q ((λ j. key_cmp (sym (take_all n v.place (omega (arith, whole))) j) (take (sym whole j) q)) ∙ cmp)
