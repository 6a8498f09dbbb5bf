use Rattle.prefix_model.proofs.Walking.WalkRest.{rest_behind}
use Rattle.prefix_view.proofs.laws.walks_go_on_behind.Goals as goal

pub returns : goal.returns
returns g c = rest_behind
