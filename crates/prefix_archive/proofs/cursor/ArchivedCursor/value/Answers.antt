use Rattle.std.proofs.Common.{sym, subst}
use Rattle.std.specs.Prelude.{IsBitSet}
use Rattle.prefix_model.specs.Keys.{low_bits}
use Rattle.prefix_archive.proofs.Cursors.{bit_is_set}
use Rattle.prefix_archive.proofs.cursor.ArchivedCursor.value.Goals as goal

pub value_of-requires-clause-node : goal.value_of-requires-clause-node
value_of-requires-clause-node g c = let self = c.args.self.now in (low_bits self.depth self.path, self.stands)

pub value_of-requires-clause-set : goal.value_of-requires-clause-set
value_of-requires-clause-set g c = let self = c.args.self.now in bit_is_set self.node.data_bits c.args.bit (subst (λ n. IsBitSet n c.args.bit) (sym self.stands.data_bits_are) c.requires.set)

pub returns : goal.returns
returns g c = λ s place. let self = c.args.self.now in c.value_of.ensures (low_bits self.depth self.path) s self.stands place
