use Rattle.std.proofs.Common.{rules}
use Rattle.prefix_model.specs.Spelling.{word}
use Rattle.prefix_layout.proofs.Writing.{appended}
use Rattle.prefix_layout.proofs.write.write_word.Goals as goal

pub returns : goal.returns
unfolding word
returns c = appended c.extend_from_slice.result c.args.out.now.items c.extend_from_slice.new.self.items (word c.args.n) (search rules)
