use Rattle.std.proofs.Common.{◌∙◌}
use Rattle.prefix_joint.proofs.Ending.{no_entries}
use Rattle.prefix_joint.proofs.map.consuming.emptied.Goals as goal

pub returns : goal.returns
returns g c = c.into_iter.ensures.into_iter_gives ∙ no_entries _ c.clear.ensures.entries
