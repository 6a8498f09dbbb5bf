use Rattle.std.proofs.Common.{◌≡◌, take}
use Rattle.prefix_table.proofs.keys.Bits.same_front.Given as goal

-- the bits that were compared are the same
abbrev pub invariant-loop-i : goal.invariant-loop-i
invariant-loop-i g l = take l.i (g.Self.Bits.bits l.self) ≡ take l.i (g.Self.Bits.bits l.other)
