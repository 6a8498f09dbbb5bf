use Rattle.std.proofs.Common.{◌≡◌, ◌+◌, ◌++◌, take, false, ap, ◌∙◌, subst, arith}
use Rattle.std.specs.Prelude.{MatchOption}
use Rattle.prefix_model.specs.InPlace.{IsRecordOf, is_position}
use Rattle.prefix_table.specs.Records.{node_record}
use Rattle.prefix_model.proofs.KeyPieces.{take_parts}
use Rattle.prefix_archive.proofs.map.ArchivedPrefixMap.child_towards.Goals as goal

pub child_at_slot-requires-clause-node : goal.child_at_slot-requires-clause-node
child_at_slot-requires-clause-node g c = (take c.args.depth (g.P.R.Bits.bits c.args.key), c.requires.node)

pub returns-clause-child : goal.returns-clause-child
returns-clause-child g c =
    let bits = g.P.R.Bits.bits c.args.key in
    let m = c.args.self.now.table.entries in
    let way = ap (λ s. take c.args.depth bits ++ s) c.child_bit.ensures.bits ∙ take_parts bits c.args.depth (c.args.depth + 5) (omega arith) in
    subst (λ k. MatchOption c.child_at_slot.result (is_position m k ≡ false) (λ child. IsRecordOf m k (node_record child))) way
    (c.child_at_slot.ensures.child (take c.args.depth bits) c.requires.node)
