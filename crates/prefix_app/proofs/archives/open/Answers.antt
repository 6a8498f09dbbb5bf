use Rattle.prefix_app.proofs.OutcomeLaws.{open_told}
use Rattle.prefix_app.proofs.archives.open.Goals as goal

pub returns : goal.returns
returns c = open_told c.args.bytes.now c.access.result (λ a. a.t1.table.entries) (λ a. a.t2.table.entries) c.access.ensures.exact c.access.ensures.spelled
