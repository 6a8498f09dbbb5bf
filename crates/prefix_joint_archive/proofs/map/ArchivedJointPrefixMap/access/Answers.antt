use Rattle.std.proofs.Common.{take, drop, subst}
use Rattle.prefix_archive.specs.Causes.{IsTable}
use Rattle.prefix_joint_archive.proofs.map.ArchivedJointPrefixMap.access.Goals as goal

pub over-requires : goal.over-requires
over-requires g c = rw (c.split_at.ensures.front) (subst (λ n. IsTable g.T.ValueCodec.codec n (take c.in_ok-at.at c.args.bytes.now)) c.WIDTH-first.ensures c.in_ok-at.ensures.spelled.1)

pub over-requires-2 : goal.over-requires-2
over-requires-2 g c = rw (c.split_at.ensures.back) (subst (λ n. IsTable g.T.ValueCodec.codec n (drop c.in_ok-at.at c.args.bytes.now)) c.WIDTH-second.ensures c.in_ok-at.ensures.spelled.2)
