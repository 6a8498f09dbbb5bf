use Rattle.std.proofs.Common.{sym, ap, ◌∙◌, subst, arith}
use Rattle.prefix_model.specs.InPlace.{IsRecordOf, is_position}
use Rattle.prefix_table.specs.Records.{node_record}
use Rattle.prefix_archive.proofs.Nodes.{root_at}
use Rattle.prefix_archive.proofs.Cursors.{root_kept, no_bits}
use Rattle.prefix_archive.proofs.cursor.root_in.Goals as goal

pub fetch-node-requires : goal.fetch-node-requires
fetch-node-requires g c =
    let map = c.args.map.now in
    (root_at g.T.ValueCodec.codec g.P.R.Bits.WIDTH map.nodes.bytes.now map.values.list.items map.table).within

pub invariant_of-result : goal.invariant_of-result
invariant_of-result g c =
    let map = c.args.map.now in
    let m = map.table.entries in
    record {
      stands = subst (λ k. IsRecordOf m k (node_record c.fetch-node.result)) (sym no_bits) ((root_at g.T.ValueCodec.codec g.P.R.Bits.WIDTH map.nodes.bytes.now map.values.list.items map.table).is_of _ c.fetch-node.ensures.record);
      kept = ap (is_position m) no_bits ∙ root_kept m;
      small = omega arith;
      within = omega arith;
    }
