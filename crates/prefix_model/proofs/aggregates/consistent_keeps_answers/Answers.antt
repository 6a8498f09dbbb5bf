use Rattle.prefix_model.proofs.Consistent.{consistent_keeps_answers, consistent_is_stable}
use Rattle.prefix_model.proofs.aggregates.consistent_keeps_answers.Goals as goal

pub returns-clause-answers : goal.returns-clause-answers
returns-clause-answers g c = consistent_keeps_answers c.requires

pub returns-clause-stable : goal.returns-clause-stable
returns-clause-stable g c = consistent_is_stable c.requires
