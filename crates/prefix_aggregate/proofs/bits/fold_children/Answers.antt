use Rattle.prefix_aggregate.proofs.BitLaws.{slots_folded}
use Rattle.prefix_aggregate.proofs.bits.fold_children.Goals as goal

pub returns : goal.returns
returns c = slots_folded c.args.cc c.even_bits.result c.even_bits.ensures
