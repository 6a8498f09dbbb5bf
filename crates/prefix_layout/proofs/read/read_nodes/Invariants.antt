use Rattle.std.proofs.Common.{◌≡◌, []}
use Rattle.prefix_model.specs.Positions.{position_set}
use Rattle.prefix_layout.proofs.Reading.{ReadsAt, family_table}
use Rattle.prefix_layout.proofs.read.read_nodes.Given as goal

abbrev pub invariant-loop-i : goal.invariant-loop-i
invariant-loop-i g l =
    let codec = g.T.ValueCodec.codec in
    record {
      reading : ReadsAt g.R.Bits.bits codec g.R.Bits.WIDTH (family_table codec l.fn.bytes) l.queue.items l.i l.nodes l.records.bytes.now l.values l.table.entries;
      none : l.held.items ≡ [];
      kept : l.table.kept ≡ position_set l.table.entries;
    }
