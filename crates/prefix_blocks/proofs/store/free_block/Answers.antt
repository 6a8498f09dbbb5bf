use Rattle.std.proofs.Common.{◌^◌}
use Rattle.prefix_blocks.proofs.Frees.{first_unused, freed_by}
use Rattle.prefix_blocks.proofs.store.free_block.Goals as goal

pub fill-requires : goal.fill-requires
fill-requires g c = first_unused c.args.cells.now c.args.free.now c.args.start (2 ^ c.args.order) c.index-cells-start.result c.requires.region c.requires.empty

pub returns : goal.returns
returns g c = freed_by c.args.cells.now c.args.free.now c.args.start c.args.order c.fill.new.cell c.requires.region c.requires.order c.requires.empty c.fill.ensures
