use Rattle.std.proofs.Common.{◌≤◌, arith, length, length-take}
use Rattle.prefix_model.specs.Keys.{low_bits}
use Rattle.prefix_model.specs.Walks.{covers}
use Rattle.prefix_app.specs.Outcome.{first_lines, key_in}
use Rattle.prefix_app.specs.Questions.{covers_all}
use Rattle.prefix_app.proofs.QuestionLaws.{cover_told, covers_told}
use Rattle.prefix_app.proofs.questions.cover_first.Goals as goal

pub returns : goal.returns
returns c =
    let m = c.args.archive.t1.table.entries in
    let k = key_in 32 c.args.prefix in
    let size = length-take c.args.prefix.1 (low_bits 32 c.args.prefix.0) in
    let fits = c.requires in
    let within : length k ≤ 32 = omega (arith, size, fits) in
    cover_told (first_lines (covers m k)) c.is_covered_in_aggregate.result (covers_all 32 m k) _ _ _ (covers_told 32 m k c.is_covered_in_aggregate.result within c.is_covered_in_aggregate.ensures) c.new-text.ensures.items c.in_ok-push_first_covers.ensures c.in_ok-push_aggregate.ensures.exact
