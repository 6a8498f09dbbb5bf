use Rattle.std.specs.Option.{option_copied}
use Rattle.prefix_model.specs.TableViews.{position_at}
use Rattle.prefix_aggregate.specs.Trees.{given}
use Rattle.prefix_model.proofs.TablePositions.{node_named}
use Rattle.prefix_aggregate.proofs.RootLaws.{sets_of}
use Rattle.prefix_aggregate.proofs.walks.change_sets.Goals as goal

pub returns : goal.returns
returns g c =
    sets_of g.T.Ord.cmp g.R.Bits.WIDTH c.args.table.now c.root.ensures.kept (option_copied c.args.default) (given c.add_default.new.work.values.items c.in_ok-inherited.inherited) c.in_ok-inherited.ensures.value
    (position_at c.args.table.now c.root.result) (node_named c.args.table.now c.root.result _ c.root.ensures.named)
    c.from_stacks.result c.collect.new.stacks.masks.items c.no_stacks-stacks.result.masks.items _ _ c.no_stacks-stacks.ensures.masks c.no_stacks-stacks.ensures.lists
    c.in_ok-collect.ensures.masks c.in_ok-collect.ensures.lists c.from_stacks.ensures.masks c.from_stacks.ensures.lists
