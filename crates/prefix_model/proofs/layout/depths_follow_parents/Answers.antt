use Rattle.prefix_model.proofs.Archive.Parents.{depths_follow_parents}
use Rattle.prefix_model.proofs.layout.depths_follow_parents.Goals as goal

pub returns : goal.returns
returns c = depths_follow_parents
