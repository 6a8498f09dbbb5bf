use Rattle.std.proofs.Common.{rules, of_calls, ◌≡◌}
use Rattle.prefix_app.proofs.OutcomeLaws.{fill_told}
use Rattle.prefix_app.proofs.commands.filled_second.Goals as goal

pub returns : goal.returns
returns c =
    let f = c.in_ok-aggregate_fill.ensures.filled in
    let same : f.0 ≡ c.args.value = (let p = f.1 in search (rules, of_calls)) in
    fill_told 128 c.args.archive.t2.table.entries c.in_ok-second.second.entries c.aggregate_fill.new.self.entries c.args.value f.0 c.in_ok-second.ensures.entries same f.2
