use Rattle.std.proofs.Common.{◌≡◌, ◌-◌, ◌*◌, ◌≤◌, length}
use Rattle.prefix_layout.specs.Spans.{some_refused}
use Rattle.prefix_layout.proofs.check.refuses_one.Given as goal

abbrev pub invariant-loop-i : goal.invariant-loop-i
invariant-loop-i g l = record {
  room : (l.entries - l.i) * g.T.ValueCodec.SIZE ≤ length l.rest;
  same : some_refused g.T.ValueCodec.codec (l.entries - l.i) l.rest ≡ some_refused g.T.ValueCodec.codec l.entries l.bytes;
}
