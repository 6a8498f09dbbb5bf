use Rattle.std.proofs.Common.{◌≡◌, ◌<◌, ◌^◌, take}
use Rattle.prefix_model.specs.Keys.{low_bits}
use Rattle.prefix_view.proofs.trie_ref.longer_number.Given as goal

abbrev pub invariant-loop-i : goal.invariant-loop-i
invariant-loop-i g l = (low_bits l.i l.number ≡ take l.i (g.R.Bits.bits l.key)) × (l.number < 2 ^ l.i)
