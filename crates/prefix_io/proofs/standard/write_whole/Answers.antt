use Rattle.std.proofs.Common.{ℕ, arith, length-take, length-drop}
use Rattle.prefix_io.proofs.Appended.{grown}
use Rattle.prefix_io.proofs.standard.write_whole.Goals as goal

pub loop-done-preserved : goal.loop-done-preserved
loop-done-preserved g c = record {
  in_bounds = omega (arith, length-take {A = ℕ}, length-drop {A = ℕ}, c.in-Ok.ensures.bound);
  written = grown (g.W.Write.contents c.args.inner.now) (g.W.Write.contents c.loop-done.inner) (g.W.Write.contents c.write.new.self)
      c.args.bytes.now c.loop-done.done c.in-Ok.n c.loop-done.invariant.written c.in-Ok.ensures.bytes;
}
