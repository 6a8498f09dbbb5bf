-- That a prefix fits has one proof.
use Rattle.std.specs.Prelude.{◌≡◌}
use native.Mathlib.Bridge.{le_prop}
use Rattle.either.specs.declared.Either.{Either}
use Rattle.either.specs.declared.Either.TheVariants.{Left, Right}
use Rattle.prefix_table.specs.declared.prefixes.PrefixKey.{Ghosts}
use Rattle.prefix_joint_walks.specs.Joint.{Fits}

pub fits_once : {A B : Type 0} (g1 : Ghosts A) (g2 : Ghosts B) (p : Either A B) (x y : Fits g1.WIDTH g1 g2.WIDTH g2 p) → x ≡ y
fits_once g1 g2 (Left p) x y = le_prop x y
fits_once g1 g2 (Right p) x y = le_prop x y
