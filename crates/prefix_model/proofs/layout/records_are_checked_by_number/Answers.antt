use Rattle.prefix_model.proofs.Archive.Numbered.{checks_by_number}
use Rattle.prefix_model.proofs.layout.records_are_checked_by_number.Goals as goal

pub returns : goal.returns
returns c = checks_by_number
