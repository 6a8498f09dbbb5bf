use Rattle.std.proofs.Common.{◌≡◌}
use Rattle.prefix_model.specs.Building.{insert_all}
use Rattle.prefix_text.specs.Generator.{generated}
use Rattle.prefix_app.specs.Outcome.{built, first_entries, second_entries}
use Rattle.prefix_app.proofs.generate.generate.Given as goal

abbrev pub invariant-loop-left : goal.invariant-loop-left
invariant-loop-left l = record {
  first : insert_all l.first.entries (first_entries (generated l.left l.generator.state)) ≡ built (first_entries (generated l.count l.seed));
  second : insert_all l.second.entries (second_entries (generated l.left l.generator.state)) ≡ built (second_entries (generated l.count l.seed));
}

abbrev pub decreases-loop-left : goal.decreases-loop-left
decreases-loop-left l = l.left
