use Rattle.std.proofs.Common.{arith}
use Rattle.std.specs.Int.{w64}
use Rattle.prefix_model.proofs.Archive.Codecs.{numbers_lawful}
use Rattle.prefix_layout.proofs.codec.U64ValueCodec.write.Goals as goal

pub returns-clause-spelled : goal.returns-clause-spelled
returns-clause-spelled c = (numbers_lawful w64).spelled c.args.self.now (omega arith)
