use Rattle.std.proofs.Common.{true, take, ◌∙◌}
use Rattle.prefix_model.specs.Walks.{walk_from}
use Rattle.prefix_model.proofs.Walking.SortedWalks.{walk_all}
use Rattle.prefix_map.proofs.map.PrefixMap.iter.Goals as goal

pub returns : goal.returns
returns g c =
    let m = c.args.self.now.entries in
    c.new.ensures.rest ∙ (λ i. walk_from m (take 0 (c.from_repr_len.ensures.key i)) (c.from_repr_len.ensures.key i) true) ∙ walk_all m
