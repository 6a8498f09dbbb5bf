use Rattle.std.proofs.Common.{◌<◌}
use Rattle.std.specs.Prelude.{IsBitSet}
use Rattle.std.specs.List.{AllByRecursion}
use Rattle.std.specs.FinMap as map
use Rattle.prefix_model.specs.TableViews.{position_at}
use Rattle.prefix_layout.specs.Writing.{node_values}
use Rattle.prefix_layout.proofs.Writing.{Written}
use Rattle.prefix_layout.proofs.SetBits.{values_at}
use Rattle.prefix_layout.proofs.write.write_node_values.Given as goal

abbrev pub invariant-loop-bit : goal.invariant-loop-bit
invariant-loop-bit g l =
    let codec = g.T.ValueCodec.codec in
    let stored = map.get l.table.entries in
    let at = position_at l.table l.at in
    record {
      can_next : (goal.iterator-loop-bit g).can_next l.bit-iterator;
      is_finite : (goal.iterator-loop-bit g).is_finite l.bit-iterator;
      each : AllByRecursion (λ b. (b < 31) × IsBitSet l.data_bits b) l.bit-iterator;
      written : Written l.initial.out.items l.out.items (values_at codec stored at l.bit-iterator) (node_values codec stored at);
    }
