use Rattle.std.proofs.Common.{◌∙◌}
use Rattle.prefix_model.specs.Walks.{walk_rest}
use Rattle.prefix_model.proofs.Walking.SortedWalks.{walk_all}
use Rattle.prefix_map.proofs.map.PrefixMap.values_mut.Goals as goal

pub returns-clause-left : goal.returns-clause-left
returns-clause-left g c =
    let m = c.args.self.now.entries in
    (λ i. walk_rest m (c.whole.ensures.last i) (c.whole.ensures.within i) (c.whole.ensures.inclusive i)) ∙ walk_all m
