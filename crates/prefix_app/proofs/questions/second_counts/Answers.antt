use Rattle.prefix_app.proofs.QuestionLaws.{counted, counts_same}
use Rattle.prefix_app.proofs.questions.second_counts.Goals as goal

pub returns : goal.returns
returns c =
    let m = c.args.archive.t2.table.entries in
    counts_same 128 m _ _ _ c.node_count.ensures c.len.ensures.entries (counted 128 m c.address_count.result c.address_count.ensures)
