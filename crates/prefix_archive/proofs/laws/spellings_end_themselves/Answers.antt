use Rattle.prefix_archive.proofs.Archived.{is_prefix_free}
use Rattle.prefix_archive.proofs.laws.spellings_end_themselves.Goals as goal

pub returns : goal.returns
returns g c codec = is_prefix_free codec
