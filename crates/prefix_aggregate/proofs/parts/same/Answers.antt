use Rattle.std.proofs.Common.{◌∙◌, sym}
use Rattle.prefix_aggregate.specs.Parts.{values_of}
use Rattle.prefix_aggregate.proofs.PartLaws.{length-values, other_lengths, same_told}
use Rattle.prefix_aggregate.proofs.parts.same.Goals as goal

pub returns-then-left-right : goal.returns-then-left-right
returns-then-left-right g c =
    let vs = c.args.values.now in
    let left = c.args.left in
    let right = c.args.right in
    other_lengths g.T.Ord.cmp (values_of vs left) (values_of vs right)
    (λ e. c.if-left-right.true (sym (length-values vs left.start left.len c.requires.left) ∙ e ∙ length-values vs right.start right.len c.requires.right))
    ∙ same_told g.T.Ord.cmp (values_of vs left) (values_of vs right)
