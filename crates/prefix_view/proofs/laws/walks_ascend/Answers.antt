use Rattle.std.proofs.Common.{◌≡◌, Bool, true, false, T, refl}
use Rattle.prefix_model.proofs.Walking.WalkRest.{walk_sorted}
use Rattle.prefix_view.proofs.laws.walks_ascend.Goals as goal

holds : (b : Bool) → T b → b ≡ true
holds true t = refl
holds false t = absurd t

pub returns : goal.returns
returns g c = λ m p. holds _ (walk_sorted m p)
