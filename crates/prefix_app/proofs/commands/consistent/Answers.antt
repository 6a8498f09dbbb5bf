use Rattle.prefix_app.proofs.OutcomeLaws.{consistent_told, writes_same}
use Rattle.prefix_app.proofs.commands.consistent.Goals as goal

pub returns : goal.returns
returns c =
    writes_same c.write.result
    (consistent_told c.args.archive.t1.table.entries c.in_ok-first.first.entries c.aggregate_consistent.new.self.entries c.in_ok-first.ensures.entries c.in_ok-aggregate_consistent.ensures.consistent)
    (consistent_told c.args.archive.t2.table.entries c.in_ok-second.second.entries c.aggregate_consistent-2.new.self.entries c.in_ok-second.ensures.entries c.in_ok-aggregate_consistent-2.ensures.consistent) c.write.ensures
