use Rattle.prefix_model.proofs.Archive.Spelled.{is_exact}
use Rattle.prefix_archive.proofs.Archived.{has_cause}
use Rattle.prefix_archive.proofs.laws.causes_are_exact.Goals as goal

pub returns-clause-one : goal.returns-clause-one
returns-clause-one g c codec lawful = has_cause codec lawful

pub returns-clause-pair : goal.returns-clause-pair
returns-clause-pair g c codec lawful = is_exact codec lawful
