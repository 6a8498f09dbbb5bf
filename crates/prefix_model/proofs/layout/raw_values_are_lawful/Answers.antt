use Rattle.prefix_model.proofs.Archive.Codecs.{raw_lawful}
use Rattle.prefix_model.proofs.layout.raw_values_are_lawful.Goals as goal

pub returns : goal.returns
returns c = raw_lawful
