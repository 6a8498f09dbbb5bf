use Rattle.prefix_model.specs.TableViews.{position_at}
use Rattle.prefix_aggregate.specs.Trees.{given}
use Rattle.prefix_aggregate.proofs.BelowLaws.{position_long}
use Rattle.prefix_aggregate.proofs.CollectingLaws.{leaf_collected}
use Rattle.prefix_aggregate.proofs.collecting.collect_leaf.Goals as goal

pub returns : goal.returns
returns g c =
    let view = c.args.table.now in
    let p = position_at view c.args.node.now.at in
    leaf_collected g.met.T.Ord.total g.R.Bits.WIDTH view c.requires.holds c.requires.width p (position_long view c.requires.holds c.args.node.now.at c.requires.named) c.args.node.now c.requires.source c.args.place c.requires.place (given c.args.work.now.values.items c.args.above)
    c.requires.leaf c.args.work.now.values.items c.answer_of.new.work.values.items c.args.lists.now c.in_ok-answer.answer c.told-lists c.in_ok-answer.ensures.kept c.requires.parts c.in_ok-answer.ensures.part c.in_ok-answer.ensures.value
