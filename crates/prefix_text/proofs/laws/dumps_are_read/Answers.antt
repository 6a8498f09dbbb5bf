use Rattle.prefix_text.proofs.Printed.{dumps_are_read}
use Rattle.prefix_text.proofs.laws.dumps_are_read.Goals as goal

pub returns : goal.returns
returns c = dumps_are_read
