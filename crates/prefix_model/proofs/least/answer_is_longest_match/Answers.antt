use Rattle.prefix_model.proofs.Fewest.Longest.{answers_longest_match}
use Rattle.prefix_model.proofs.least.answer_is_longest_match.Goals as goal

pub returns : goal.returns
returns g c = answers_longest_match _
