use Rattle.std.proofs.Common.{◌∙◌, sym, ap, length}
use Rattle.prefix_aggregate.specs.ChangeSets.{ChangeLists}
use Rattle.prefix_aggregate.proofs.StackLaws.{length-kept}
use Rattle.prefix_aggregate.proofs.sets.ChangeSets.len.Goals as goal

pub returns : goal.returns
returns g c =
    c.len.ensures ∙ c.self.inside.stacks.ends.ok.0 ∙ sym (length-kept c.self.inside.stacks)
    ∙ ap (λ (v : ChangeLists g.row.T.Denot). length v.lists) c.self.view_is
