use Rattle.std.proofs.Common.{◌+◌, ◌-◌, arith}
use Rattle.prefix_model.proofs.KeyPlaces.{part-lt}
use Rattle.prefix_model.proofs.Bitmaps.SlotLaws.{shifted_one, level_within}
use Rattle.prefix_table.proofs.node.slot_of.Goals as goal

pub overflow_add-result : goal.overflow_add-result
overflow_add-result g c =
    let below = part-lt (g.R.Bits.bits c.args.key) c.args.depth c.args.len (c.args.len - c.args.depth) (omega arith) in
    let level = level_within (c.args.len - c.args.depth) c.bits_between.result _ (omega arith) c.bits_between.ensures below in
    omega (arith, level)

pub returns-clause-value : goal.returns-clause-value
returns-clause-value g c = λ i. shifted_one (c.args.len - c.args.depth) (omega arith) i - 1 + c.bits_between.ensures i

pub returns-clause-limit : goal.returns-clause-limit
returns-clause-limit g c =
    let below = part-lt (g.R.Bits.bits c.args.key) c.args.depth c.args.len (c.args.len - c.args.depth) (omega arith) in
    level_within (c.args.len - c.args.depth) c.bits_between.result _ (omega arith) c.bits_between.ensures below
