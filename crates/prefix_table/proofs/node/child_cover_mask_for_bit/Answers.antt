use Rattle.prefix_table.proofs.NodeMasks.{child_cover_at}
use Rattle.prefix_table.proofs.node.child_cover_mask_for_bit.Goals as goal

pub returns : goal.returns
returns c = λ s here. child_cover_at c.args.bit s here
