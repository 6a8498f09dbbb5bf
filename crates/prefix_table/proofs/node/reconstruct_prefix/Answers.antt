use Rattle.std.proofs.Common.{◌∙◌}
use Rattle.prefix_table.proofs.node.reconstruct_prefix.Goals as goal

pub returns-clause-key : goal.returns-clause-key
returns-clause-key g c = λ s here. c.from_repr_len.ensures.key ∙ c.reconstruct_repr-repr.ensures.key s here

pub returns-clause-length : goal.returns-clause-length
returns-clause-length g c = λ s here. c.from_repr_len.ensures.length ∙ c.reconstruct_repr-repr.ensures.length s here
