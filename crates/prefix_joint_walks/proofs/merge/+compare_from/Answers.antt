use Rattle.std.proofs.Common.{◌∙◌, arith}
use Rattle.std.specs.declared.cmp.Ordering.TheVariants.{Less, Equal, Greater}
use Rattle.prefix_joint_walks.proofs.Orders.{first_ends, second_ends, by_order}
use Rattle.prefix_joint_walks.proofs.merge.+compare_from.Goals as goal

pub returns-else-at-b_len : goal.returns-else-at-b_len
returns-else-at-b_len g t c =
    let whole = g.met.R.Bits.length_law c.args.b in
    let fits = c.requires.b in
    first_ends (g.R.Bits.bits c.args.a) (g.R.Bits.bits c.args.b) c.args.a_len c.args.b_len c.args.at (omega arith) (omega arith) (omega (arith, whole, fits))

pub returns-then-at-b_len-2 : goal.returns-then-at-b_len-2
returns-then-at-b_len-2 g t c =
    let whole = g.met.R.Bits.length_law c.args.a in
    let fits = c.requires.a in
    second_ends (g.R.Bits.bits c.args.a) (g.R.Bits.bits c.args.b) c.args.a_len c.args.b_len c.args.at (omega arith) (omega arith) (omega (arith, whole, fits))

pub returns-in-Less : goal.returns-in-Less
returns-in-Less g t c = by_order (g.R.Bits.bits c.args.a) (g.R.Bits.bits c.args.b) c.args.a_len c.args.b_len c.args.at Less c.bit.result c.bit-2.result c.in-Less.ensures c.bit.ensures c.bit-2.ensures (omega arith) (omega arith)

pub returns-in-Greater : goal.returns-in-Greater
returns-in-Greater g t c = by_order (g.R.Bits.bits c.args.a) (g.R.Bits.bits c.args.b) c.args.a_len c.args.b_len c.args.at Greater c.bit.result c.bit-2.result c.in-Greater.ensures c.bit.ensures c.bit-2.ensures (omega arith) (omega arith)

pub returns-in-Equal : goal.returns-in-Equal
returns-in-Equal g t c = c.compare_from.ensures ∙ by_order (g.R.Bits.bits c.args.a) (g.R.Bits.bits c.args.b) c.args.a_len c.args.b_len c.args.at Equal c.bit.result c.bit-2.result c.in-Equal.ensures c.bit.ensures c.bit-2.ensures (omega arith) (omega arith)
