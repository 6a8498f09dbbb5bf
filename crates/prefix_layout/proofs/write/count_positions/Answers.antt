use Rattle.prefix_layout.proofs.Counting.{total_is}
use Rattle.prefix_layout.proofs.write.count_positions.Goals as goal

pub returns : goal.returns
returns g c = total_is c.args.table.now c.root.ensures.kept c.root.result c.count_nodes.result c.root.ensures.named c.count_nodes.ensures
