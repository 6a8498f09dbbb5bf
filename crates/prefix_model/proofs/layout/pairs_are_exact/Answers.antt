use Rattle.prefix_model.proofs.Archive.Spelled.{is_exact}
use Rattle.prefix_model.proofs.layout.pairs_are_exact.Goals as goal

pub returns : goal.returns
returns g c codec = is_exact codec
