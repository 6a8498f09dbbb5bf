use Rattle.std.proofs.Common.{◌∙◌, ◌++◌, ◌∷◌, [], ap}
use Rattle.prefix_aggregate.specs.Lists.{behind}
use Rattle.prefix_aggregate.proofs.StackLaws.{lists_more, stacked_more}
use Rattle.prefix_aggregate.proofs.sets.add_list.Goals as goal

pub returns-clause-stacked : goal.returns-clause-stacked
returns-clause-stacked g c =
    stacked_more c.args.stacks.now.ends.items c.push.new.self.items c.args.stacks.now.values.items c.add_clones.new.values.items (behind c.args.list.now) c.len-end.result c.requires.stacked
    c.in_ok-add_clones.ensures (c.len-end.ensures ∙ c.add_clones.new.values.ok.0) c.in_ok-push.ensures.items

pub returns-clause-lists : goal.returns-clause-lists
returns-clause-lists g c =
    lists_more c.args.stacks.now.ends.items c.push.new.self.items c.args.stacks.now.values.items c.add_clones.new.values.items (behind c.args.list.now) c.requires.stacked
    c.in_ok-add_clones.ensures (c.in_ok-push.ensures.items ∙ ap (λ n. c.args.stacks.now.ends.items ++ n ∷ []) (c.len-end.ensures ∙ c.add_clones.new.values.ok.0))
