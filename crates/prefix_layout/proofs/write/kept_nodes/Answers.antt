use Rattle.std.proofs.Common.{[], arith}
use Rattle.prefix_layout.specs.Writing.{is_kept, kept_positions}
use Rattle.prefix_layout.proofs.Below.{position_is}
use Rattle.prefix_layout.proofs.Kept.{kept_come_out}
use Rattle.prefix_layout.proofs.Queue.{runs_first, runs_next}
use Rattle.prefix_layout.proofs.write.kept_nodes.Goals as goal

pub loop-next-init : goal.loop-next-init
loop-next-init g c =
    let view = c.args.table.now in
    record {
      holds = c.root.ensures.kept;
      runs = runs_first view (is_kept view) (kept_positions view) (kept_come_out view c.root.ensures.kept) _ _ _ c.new-nodes.ensures.items (position_is view c.root.result [] c.root.ensures.named) c.in_ok-push_node.ensures;
    }

pub loop-next-preserved : goal.loop-next-preserved
loop-next-preserved g c =
    let view = c.args.table.now in
    let l = c.loop-next in
    record {
      holds = l.invariant.holds;
      runs = (runs_next view (is_kept view) (kept_positions view) l.nodes.items c.push_children.new.nodes.items l.next c.index-node.result.now (omega (arith, c.len.ensures, l.nodes.ok.0)) c.index-node.ensures l.invariant.runs c.in_ok-push_children.ensures).runs;
    }
