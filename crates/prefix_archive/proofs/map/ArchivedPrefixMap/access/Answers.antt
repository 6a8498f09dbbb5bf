use Rattle.std.proofs.Common.{subst}
use Rattle.prefix_archive.specs.Causes.{IsTable}
use Rattle.prefix_archive.proofs.map.ArchivedPrefixMap.access.Goals as goal

pub over-requires : goal.over-requires
over-requires g c = subst (λ n. IsTable g.T.ValueCodec.codec n c.args.bytes.now) c.WIDTH.ensures c.in_ok-check_single.ensures.spelled
