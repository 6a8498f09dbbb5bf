use Rattle.std.proofs.Common.{refl}
use Rattle.prefix_view.proofs.laws.same_keys_is_reflexive.Goals as goal

pub returns : goal.returns
returns g c v = refl
