use Rattle.prefix_table.proofs.KeyShifts.{kept_equal}
use Rattle.prefix_table.proofs.keys.U8Bits.same_front.Goals as goal

pub returns : goal.returns
returns c =
    kept_equal 8 c.args.self c.args.other c.keep.result c.keep-2.result c.args.len c.keep.type_inv c.keep-2.type_inv c.keep.ensures c.keep-2.ensures
