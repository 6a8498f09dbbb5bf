use Rattle.prefix_table.proofs.NodeMasks.{data_past_at, children_past_at}
use Rattle.prefix_table.proofs.node.lex_after_child.Goals as goal

pub returns-clause-data_bits : goal.returns-clause-data_bits
returns-clause-data_bits c = data_past_at c.args.bit c.requires

pub returns-clause-child_bits : goal.returns-clause-child_bits
returns-clause-child_bits c = children_past_at c.args.bit c.requires
