use Rattle.std.proofs.Common.{◌≤◌, length, arith}
use Rattle.prefix_table.proofs.NodeMasks.{lpm_short, lpm_long}
use Rattle.prefix_table.proofs.node.data_lpm_mask.Goals as goal
use Rattle.prefix_table.proofs.node.data_lpm_mask.Goals.{then-len-depth-lt-K, else-len-depth-lt-K}

pub returns : goal.returns
returns g c =
    let whole = g.met.R.Bits.length_law c.args.key in
    let within : c.args.len ≤ length (g.R.Bits.bits c.args.key) = omega (arith, whole, c.requires.within) in
    elim c.if-len-depth-lt-K.branch [
      | then-len-depth-lt-K w ↦ lpm_short (g.R.Bits.bits c.args.key) c.args.depth c.args.len c.if-len-depth-lt-K.end c.slot_of.result w.end-is c.requires.order (omega arith) within c.slot_of.ensures.value
      | else-len-depth-lt-K w ↦ lpm_long (g.R.Bits.bits c.args.key) c.args.depth c.args.len c.if-len-depth-lt-K.end c.slot_of.result (let e = w.end-is in omega arith) (omega arith) within c.slot_of.ensures.value
    ]
