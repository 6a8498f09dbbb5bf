use Rattle.std.proofs.Common.{take}
use Rattle.std.proofs.lemmas.Bool.{eq-eqb}
use Rattle.std.specs.Int.{bit_at}
use Rattle.prefix_model.specs.Keys.{low_bits}
use Rattle.prefix_archive.proofs.Cursors.{slot_place}
use Rattle.prefix_archive.proofs.descent.child_in.Goals as goal

pub child_of-requires-clause-node : goal.child_of-requires-clause-node
child_of-requires-clause-node g c = (take c.args.depth (g.P.R.Bits.bits c.args.key), c.requires.node)

pub child_of-requires-clause-set : goal.child_of-requires-clause-set
child_of-requires-clause-set g c = eq-eqb (bit_at c.args.node.now.child_bits c.args.bit) 1 c.requires.set

pub returns : goal.returns
returns g c = c.child_of.ensures.child (take c.args.depth (g.P.R.Bits.bits c.args.key)) (low_bits 5 c.args.bit) c.requires.node (slot_place c.args.bit c.requires.place)
