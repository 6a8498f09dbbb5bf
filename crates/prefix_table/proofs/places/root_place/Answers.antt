use Rattle.std.proofs.Common.{[]}
use Rattle.prefix_model.proofs.TablePositions.{root_key}
use Rattle.prefix_table.proofs.places.root_place.Goals as goal

pub returns-clause-root : goal.returns-clause-root
returns-clause-root g c = root_key c.args.table.now c.root.result [] c.root.ensures.named
