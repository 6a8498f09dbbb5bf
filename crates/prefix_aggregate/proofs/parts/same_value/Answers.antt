use Rattle.std.proofs.Common.{◌∙◌, ap, arith}
use Rattle.std.specs.Ordering.{is_eq}
use Rattle.prefix_aggregate.proofs.PartLaws.{at_index, one_of_part, one_same}
use Rattle.prefix_aggregate.proofs.parts.same_value.Goals as goal

pub returns : goal.returns
returns g c =
    let vs = c.args.values.now in
    let left = c.args.left in
    let right = c.args.right in
    let x = c.index-values-left.result in
    let y = c.index-values-right.result in
    let within_left = c.requires.left in
    let within_right = c.requires.right in
    let one_left = c.requires.one_left in
    let one_right = c.requires.one_right in
    let first = one_of_part vs left x one_left (at_index vs left.start x (omega (arith, within_left, one_left)) c.index-values-left.is) in
    let second = one_of_part vs right y one_right (at_index vs right.start y (omega (arith, within_right, one_right)) c.index-values-right.is) in
    c.is_eq.ensures ∙ ap is_eq c.cmp.ensures ∙ one_same g.T.Ord.cmp vs left right x y first second
