use Rattle.std.proofs.Common.{rules, ◌<◌, ◌≤◌}
use Rattle.prefix_model.specs.Building.{insert_all}
use Rattle.prefix_text.specs.Generator.{generated}
use Rattle.prefix_app.specs.Outcome.{built, first_entries, second_entries}
use Rattle.prefix_app.proofs.GenerateLaws.{all_first, all_second, generated_told, step_first, step_second}
use Rattle.prefix_app.proofs.generate.generate.Goals as goal

pub loop-left-init : goal.loop-left-init
loop-left-init c = record {
  first = λ i. insert_all (c.new-first.ensures.entries i) (first_entries (generated c.args.count (c.new-generator.ensures i)));
  second = λ i. insert_all (c.new-second.ensures.entries i) (second_entries (generated c.args.count (c.new-generator.ensures i)));
}

pub loop-left-preserved : goal.loop-left-preserved
loop-left-preserved c =
    let l : 0 < c.loop-left.left = search rules in
    let e = c.next_entry-prefix.ensures in
    let s = c.in_ok-store.ensures in record {
      first = step_first _ _ (built (first_entries (generated c.args.count c.args.seed))) c.loop-left.left c.loop-left.generator.state _ _ l e.entry e.state s.first c.loop-left.invariant.first;
      second = step_second _ _ (built (second_entries (generated c.args.count c.args.seed))) c.loop-left.left c.loop-left.generator.state _ _ l e.entry e.state s.second c.loop-left.invariant.second;
    }

pub returns : goal.returns
returns c =
    let l : c.loop-left.left ≤ 0 = search rules in
    generated_told _ _ (generated c.args.count c.args.seed) _
    (all_first _ (built (first_entries (generated c.args.count c.args.seed))) c.loop-left.left c.loop-left.generator.state l c.loop-left.invariant.first)
    (all_second _ (built (second_entries (generated c.args.count c.args.seed))) c.loop-left.left c.loop-left.generator.state l c.loop-left.invariant.second) c.in_ok-text.ensures
