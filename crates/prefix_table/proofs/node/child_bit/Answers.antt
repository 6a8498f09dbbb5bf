use Rattle.std.proofs.Common.{arith}
use Rattle.prefix_model.proofs.KeyPieces.{five_bits, five_below}
use Rattle.prefix_table.proofs.node.child_bit.Goals as goal

pub returns-clause-bits : goal.returns-clause-bits
returns-clause-bits g c =
    let whole = g.met.R.Bits.length_law c.args.key in
    five_bits (g.R.Bits.bits c.args.key) c.args.depth c.bits_between.result (omega (arith, whole, c.requires)) c.bits_between.ensures

pub returns-clause-limit : goal.returns-clause-limit
returns-clause-limit g c = five_below (g.R.Bits.bits c.args.key) c.args.depth c.bits_between.result c.bits_between.ensures
