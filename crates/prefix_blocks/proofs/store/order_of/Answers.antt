use Rattle.std.proofs.Common.{arith}
use Rattle.prefix_blocks.proofs.SizeLaws.{order_one_or_none, order_of_two, order_three_or_four, order_to_eight, order_to_sixteen, order_to_most}
use Rattle.prefix_blocks.proofs.store.order_of.Goals as goal

pub returns-in-2 : goal.returns-in-2
returns-in-2 c = order_of_two c.args.count (omega arith)

pub returns-in-0 : goal.returns-in-0
returns-in-0 c = order_one_or_none c.args.count (omega arith)

pub returns-in-3 : goal.returns-in-3
returns-in-3 c = order_three_or_four c.args.count (omega arith) (omega arith)

pub returns-in-5-to-8 : goal.returns-in-5-to-8
returns-in-5-to-8 c = order_to_eight c.args.count (omega arith) (omega arith)

pub returns-in-9-to-16 : goal.returns-in-9-to-16
returns-in-9-to-16 c = order_to_sixteen c.args.count (omega arith) (omega arith)

pub returns-in_default : goal.returns-in_default
returns-in_default c = order_to_most c.args.count (omega arith) (omega arith)
