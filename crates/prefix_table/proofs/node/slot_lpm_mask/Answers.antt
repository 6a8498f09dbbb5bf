use Rattle.prefix_table.proofs.NodeMasks.{lpm_slot}
use Rattle.prefix_table.proofs.node.slot_lpm_mask.Goals as goal

pub returns : goal.returns
returns c = lpm_slot c.args.child_bit c.requires
