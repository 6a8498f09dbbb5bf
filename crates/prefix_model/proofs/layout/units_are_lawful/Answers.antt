use Rattle.prefix_model.proofs.Archive.Codecs.{unit_lawful}
use Rattle.prefix_model.proofs.layout.units_are_lawful.Goals as goal

pub returns : goal.returns
returns c = unit_lawful
