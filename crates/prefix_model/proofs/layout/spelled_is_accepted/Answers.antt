use Rattle.prefix_model.proofs.Archive.Spelled.{accepts_spelled}
use Rattle.prefix_model.proofs.layout.spelled_is_accepted.Goals as goal

pub returns : goal.returns
returns g c codec = accepts_spelled codec
