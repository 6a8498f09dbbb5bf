use Rattle.std.proofs.Common.{refl}
use Rattle.prefix_table.proofs.KeyShifts.{number_put, none_put}
use Rattle.prefix_table.proofs.keys.U16Bits.with_number.Goals as goal

pub returns-then-count-eq0 : goal.returns-then-count-eq0
returns-then-count-eq0 c = none_put 16 c.args.self c.keep.result c.args.count c.args.number c.args.len c.if-count-eq0.true c.keep.ensures

pub returns-else-count-eq0 : goal.returns-else-count-eq0
returns-else-count-eq0 c =
    let kept = c.keep-else-count-eq0 in
    number_put 16 c.args.self kept.result c.args.count c.args.number c.args.number c.args.len kept.type_inv c.requires.within c.requires.below (refl) kept.ensures
