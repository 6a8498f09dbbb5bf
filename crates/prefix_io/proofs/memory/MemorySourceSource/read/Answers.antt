use Rattle.std.proofs.Common.{arith, ◌≤◌, length, drop, min, ◌∙◌, ap}
use Rattle.prefix_io.proofs.Pieces.{moves, ends}
use Rattle.prefix_io.proofs.memory.MemorySourceSource.read.Goals as goal

pub returns-clause-bytes : goal.returns-clause-bytes
returns-clause-bytes c =
    let s = c.args.self.now in
    let e = c.copy_front-count.ensures in
    let count = e.count ∙ ap (λ t. min (min s.piece (length c.args.buf.now)) (length t)) c.rest.ensures in
    let fits : c.copy_front-count.result ≤ length (drop s.start s.bytes.items) = omega arith in (
      rw e.copied (rw c.rest.ensures (moves s.bytes.items c.args.buf.now s.start c.copy_front-count.result fits)),
      λ zero room. ends s.bytes.items s.start c.copy_front-count.result s.piece (length c.args.buf.now) s.moves c.requires count zero,
    )
