use Rattle.std.proofs.Common.{◌∙◌}
use Rattle.prefix_app.proofs.QuestionLaws.{counted, counts_same}
use Rattle.prefix_app.proofs.questions.first_counts.Goals as goal

pub returns : goal.returns
returns c =
    let m = c.args.archive.t1.table.entries in
    counts_same 32 m _ _ _ c.node_count.ensures c.len.ensures.entries (c.widened.ensures ∙ counted 32 m c.address_count.result c.address_count.ensures)
