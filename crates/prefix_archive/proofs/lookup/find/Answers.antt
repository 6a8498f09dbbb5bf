use Rattle.std.proofs.Common.{◌≡◌, ◌+◌, ◌*◌, ◌/◌, ◌%◌, take, sym, subst, arith}
use Rattle.prefix_model.specs.InPlace.{IsRecordOf}
use Rattle.prefix_table.specs.Records.{node_record}
use Rattle.prefix_archive.proofs.Fronts.{none_below}
use Rattle.prefix_archive.proofs.lookup.find.Goals as goal

pub returns-in-None : goal.returns-in-None
returns-in-None g c =
    let bits = g.P.R.Bits.bits c.args.key in
    let at_five = c.loop-depth.invariant.at_five in
    let five : (c.loop-depth.depth + 5) % 5 ≡ 0 = omega (arith, at_five) in
    let len = g.met.P.R.Bits.length_law c.args.key in
    sym (none_below c.args.archive.now.table.entries bits (c.loop-depth.depth + 5) (c.args.len + 1) five (omega (arith, len)) (omega (arith, len)) c.in-None.ensures.child c.args.len (omega arith) (omega arith))

pub value_at-requires-clause-node : goal.value_at-requires-clause-node
value_at-requires-clause-node g c =
    let at_five = c.loop-depth.invariant.at_five in
    let e : c.loop-depth.depth ≡ c.args.len / 5 * 5 = omega (arith, at_five) in
    subst (λ d. IsRecordOf c.args.archive.now.table.entries (take d (g.P.R.Bits.bits c.args.key)) (node_record c.loop-depth.node)) e c.loop-depth.invariant.node
