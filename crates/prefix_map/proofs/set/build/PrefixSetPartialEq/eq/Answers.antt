use Rattle.std.proofs.Common.{◌∙◌}
use Rattle.std.specs.Cmp.Lexicographic.{pointwise}
use Rattle.std.specs.FinMap.{entries, keys}
use Rattle.std.specs.Ordering.{eq_by_cmp}
use Rattle.prefix_model.specs.Keys.{key_cmp}
use Rattle.prefix_map.proofs.EqualityLaws.{keys_alone}
use Rattle.prefix_map.proofs.set.build.PrefixSetPartialEq.eq.Goals as goal

pub returns : goal.returns
returns g c =
    c.eq.ensures ∙ keys_alone (entries c.self.inside.map.entries) (entries c.other.inside.map.entries)
    ∙ (λ i. pointwise (eq_by_cmp key_cmp) (keys (c.self.view_is i).entries) (keys (c.other.view_is i).entries))
