use Rattle.std.proofs.Common.{refl}
use Rattle.prefix_model.specs.declared.Cause.TheVariants as cause
use Rattle.prefix_model.proofs.Archive.FirstCauses.{alone_behind, alone_passed}
use Rattle.prefix_archive.proofs.Causes.{all_is_table}
use Rattle.prefix_archive.proofs.families.check_single.Goals as goal

pub returns-then-span-bytes-clause-exact : goal.returns-then-span-bytes-clause-exact
returns-then-span-bytes-clause-exact g c = (cause.TrailingBytes, refl, alone_behind g.T.ValueCodec.codec c.args.width c.args.bytes.now c.in_ok-span.span.len c.in_ok-span.ensures.exact.0 c.if-span-bytes.true)

pub returns-clause-exact : goal.returns-clause-exact
returns-clause-exact g c = alone_passed g.T.ValueCodec.codec c.args.width c.args.bytes.now c.in_ok-span.span.len c.in_ok-span.ensures.exact.0 c.if-span-bytes.false

pub returns-clause-spelled : goal.returns-clause-spelled
returns-clause-spelled g c = all_is_table g.T.ValueCodec.codec c.args.width c.in_ok-span.span.len c.args.bytes.now c.if-span-bytes.false c.in_ok-span.ensures.spelling
