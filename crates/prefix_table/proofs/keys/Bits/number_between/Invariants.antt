use Rattle.std.proofs.Common.{◌≡◌, ◌<◌, ◌-◌, ◌^◌, take, drop}
use Rattle.prefix_model.specs.Keys.{number}
use Rattle.prefix_table.proofs.keys.Bits.number_between.Given as goal

abbrev pub invariant-loop-i : goal.invariant-loop-i
invariant-loop-i g l = (l.spelled ≡ number (drop l.from (take l.i (g.Self.Bits.bits l.self)))) × (l.spelled < 2 ^ (l.i - l.from))
