use Rattle.prefix_layout.proofs.Settling.{written_queue}
use Rattle.prefix_layout.proofs.write.queue_of.Goals as goal

pub returns : goal.returns
returns g c = written_queue c.args.table.now c.in_ok-nodes.ensures.holds _ _ c.in_ok-nodes.ensures.nodes c.drop_empty.ensures
