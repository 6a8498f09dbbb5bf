use Rattle.prefix_table.proofs.NodeMasks.{data_from_at, children_from_at}
use Rattle.prefix_table.proofs.node.lex_after_data.Goals as goal

pub returns-clause-data_bits : goal.returns-clause-data_bits
returns-clause-data_bits c = λ s here. data_from_at c.args.bit s here

pub returns-clause-child_bits : goal.returns-clause-child_bits
returns-clause-child_bits c = λ s here. children_from_at c.args.bit s here
