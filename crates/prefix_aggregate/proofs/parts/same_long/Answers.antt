use Rattle.std.proofs.Common.{◌∙◌, refl, sym, take, drop}
use Rattle.prefix_aggregate.specs.Lists.{behind}
use Rattle.prefix_aggregate.specs.Parts.{as_candidates, told, values_of}
use Rattle.prefix_aggregate.specs.Same.{same_list, same_candidates}
use Rattle.prefix_aggregate.proofs.NodeLaws.{candidates_same}
use Rattle.prefix_aggregate.proofs.PartLaws.{slice_values, same_told}
use Rattle.prefix_aggregate.proofs.parts.same_long.Goals as goal

pub returns-then-left-right : goal.returns-then-left-right
returns-then-left-right g c =
    let vs = c.args.values.now in
    sym (candidates_same g.met.T.Ord.total (told vs c.args.left))
    ∙ (λ i. same_candidates g.T.Ord.cmp (told vs c.args.left) (as_candidates (take (c.requires.long i) (drop (c.if-left-right.true i) (behind vs)))))

pub returns : goal.returns
returns g c =
    let vs = c.args.values.now in
    let left = c.args.left in
    let right = c.args.right in
    c.same_values.ensures
    ∙ (λ i. same_list g.T.Ord.cmp (slice_values vs vs left.start left.len refl i) (slice_values vs vs right.start right.len refl i))
    ∙ same_told g.T.Ord.cmp (values_of vs left) (values_of vs right)
