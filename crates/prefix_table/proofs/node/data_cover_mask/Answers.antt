use Rattle.std.proofs.Common.{◌≤◌, length, arith}
use Rattle.prefix_table.proofs.NodeMasks.{cover_at}
use Rattle.prefix_model.proofs.KeyPieces.{part_at}
use Rattle.prefix_table.proofs.node.data_cover_mask.Goals as goal

pub returns : goal.returns
returns g c =
    let whole = g.met.R.Bits.length_law c.args.key in
    let within : c.args.len ≤ length (g.R.Bits.bits c.args.key) = omega (arith, whole, c.requires.within) in
    cover_at c.slot_of.result _ (part_at (g.R.Bits.bits c.args.key) c.args.depth c.args.len c.slot_of.result c.requires.order c.requires.few within c.slot_of.ensures.value)
