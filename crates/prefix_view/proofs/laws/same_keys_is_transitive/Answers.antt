use Rattle.std.proofs.Common.{◌∙◌}
use Rattle.prefix_view.proofs.laws.same_keys_is_transitive.Goals as goal

pub returns : goal.returns
returns g c v u x e f = e ∙ f
