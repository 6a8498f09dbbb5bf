use Rattle.std.proofs.Common.{◌≡◌, ◌+◌, ◌-◌, ◌/◌, ◌^◌, ◌++◌, false, replicate, take}
use Rattle.prefix_model.specs.Keys.{low_bits}
use Rattle.prefix_table.proofs.keys.Bits.with_number.Given as goal

abbrev pub invariant-loop-i : goal.invariant-loop-i
invariant-loop-i g l = g.Self.Bits.bits l.made ≡ take l.len (g.Self.Bits.bits l.fn.self)
    ++ (low_bits l.i (l.number / 2 ^ (l.count - l.i)) ++ replicate (g.Self.Bits.WIDTH - (l.len + l.i)) false)
