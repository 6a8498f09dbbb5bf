use Rattle.std.proofs.Common.{arith}
use Rattle.prefix_blocks.proofs.SizeLaws.{needed_most}
use Rattle.prefix_blocks.proofs.store.tests.change.Goals as goal

pub insert-requires-clause-room : goal.insert-requires-clause-room
insert-requires-clause-room c = let most = needed_most c.count_of-count.result in let room = c.in_ok-reserve.ensures.room in omega arith
