use Rattle.prefix_model.proofs.Archive.Codecs.{numbers_lawful}
use Rattle.prefix_model.proofs.layout.numbers_are_lawful.Goals as goal

pub returns : goal.returns
returns c = numbers_lawful
