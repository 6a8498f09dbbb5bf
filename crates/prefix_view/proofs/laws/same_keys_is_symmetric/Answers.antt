use Rattle.std.proofs.Common.{sym}
use Rattle.prefix_view.proofs.laws.same_keys_is_symmetric.Goals as goal

pub returns : goal.returns
returns g c v u e = sym e
