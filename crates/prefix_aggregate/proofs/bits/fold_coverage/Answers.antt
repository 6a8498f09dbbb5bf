use Rattle.prefix_aggregate.proofs.CoverLaws.{coverage_folds}
use Rattle.prefix_aggregate.proofs.bits.fold_coverage.Goals as goal

pub returns : goal.returns
returns c = coverage_folds c.args.data_bits c.args.child_coverage c.fold_children.result c.fold_l4-coverage.result c.fold_l3-coverage.result c.fold_l2-coverage.result c.fold_l1.result c.fold_children.ensures c.fold_l4-coverage.ensures c.fold_l3-coverage.ensures c.fold_l2-coverage.ensures c.fold_l1.ensures
