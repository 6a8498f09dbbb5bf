use Rattle.std.proofs.Common.{◌+◌, ◌^◌, arith}
use Rattle.prefix_blocks.specs.Cells.{held}
use Rattle.prefix_blocks.proofs.Frees.{move_fits}
use Rattle.prefix_blocks.proofs.Grows.{outgrown_by, can_move, moved_region, moved_empty, has_outgrown}
use Rattle.prefix_blocks.proofs.store.outgrow.Goals as goal

pub move_cells-requires : goal.move_cells-requires
move_cells-requires g c =
    let cells = c.args.cells.now in
    let fits = move_fits c.requires.region.extent cells c.args.free.now c.args.at c.args.to c.args.count (2 ^ (c.args.order + 1)) (held cells c.args.at c.args.count)
    (can_move cells c.args.free.now c.args.at c.args.to c.args.count c.args.order c.requires) in
    record { from = fits.0; to = fits.1; apart = fits.2 }

pub free_block-requires : goal.free_block-requires
free_block-requires g c = record {
  order = let w = (outgrown_by c.args.cells.now c.args.free.now c.args.at c.args.to c.args.count c.args.order c.requires).within in omega arith;
  region = moved_region c.args.cells.now c.move_cells.new.cells c.args.free.now c.args.at c.args.to c.args.count c.args.order c.requires c.move_cells.ensures;
  empty = moved_empty c.args.cells.now c.move_cells.new.cells c.args.free.now c.args.at c.args.to c.args.count c.args.order c.requires c.move_cells.ensures;
}

pub returns-clause-grown : goal.returns-clause-grown
returns-clause-grown g c =
    has_outgrown c.args.cells.now c.move_cells.new.cells c.args.free.now c.args.at c.args.to c.args.count c.args.order c.requires c.move_cells.ensures
    c.free_block.new.cells c.free_block.new.free c.free_block.ensures
