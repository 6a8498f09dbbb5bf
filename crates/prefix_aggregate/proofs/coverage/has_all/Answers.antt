use Rattle.std.proofs.lemmas.Bool.{eqb-true, eq-eqb}
use Rattle.prefix_model.proofs.Counting.NodeViews.{mask_in, in_mask}
use Rattle.prefix_aggregate.proofs.coverage.has_all.Goals as goal

pub returns : goal.returns
returns c = (λ t. mask_in c.args.word c.args.mask (eqb-true _ _ t), λ h. eq-eqb _ _ (in_mask c.args.word c.args.mask h))
