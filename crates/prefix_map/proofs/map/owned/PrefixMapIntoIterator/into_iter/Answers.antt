use Rattle.std.proofs.Common.{◌∙◌}
use Rattle.prefix_model.specs.Walks.{walk_rest}
use Rattle.prefix_model.proofs.Walking.SortedWalks.{walk_all}
use Rattle.prefix_map.proofs.map.owned.PrefixMapIntoIterator.into_iter.Goals as goal

pub returns : goal.returns
returns g c =
    let m = c.args.self.entries in
    record { into_iter_gives = (λ i. walk_rest m (c.whole.ensures.last i) (c.whole.ensures.within i) (c.whole.ensures.inclusive i)) ∙ walk_all m }
