use Rattle.std.proofs.Common.{◌≤◌, length, arith}
use Rattle.prefix_model.proofs.KeyPieces.{part_at}
use Rattle.prefix_table.proofs.node.data_bit.Goals as goal

pub returns-clause-place : goal.returns-clause-place
returns-clause-place g c =
    let whole = g.met.R.Bits.length_law c.args.key in
    let within : c.args.len ≤ length (g.R.Bits.bits c.args.key) = omega (arith, whole, c.requires) in
    part_at (g.R.Bits.bits c.args.key) _ c.args.len c.slot_of.result (omega arith) (omega arith) within c.slot_of.ensures.value
