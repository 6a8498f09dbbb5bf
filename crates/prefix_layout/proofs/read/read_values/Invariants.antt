use Rattle.std.proofs.Common.{◌-◌, ◌*◌, ◌++◌, drop}
use Rattle.prefix_layout.specs.Reads.{values_in}
use Rattle.prefix_layout.proofs.Storing.{Taking}
use Rattle.prefix_layout.proofs.read.read_values.Given as goal

abbrev pub invariant-loop : goal.invariant-loop
invariant-loop g l =
    let codec = g.T.ValueCodec.codec in
    Taking codec (l.initial.values.items ++ values_in codec l.fn.count l.fn.bytes) (drop (l.fn.count * codec.size) l.fn.bytes) (l.fn.count - l.counter) l.rest l.values.items
