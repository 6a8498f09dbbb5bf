use Rattle.std.proofs.Common.{rules}
use Rattle.prefix_text.proofs.LineLaws.{first_word_of, only_word}
use Rattle.prefix_text.proofs.lines.split_word.Goals as goal

pub returns-in-Some : goal.returns-in-Some
returns-in-Some c = first_word_of 32 c.args.line.now c.in-Some.end (search rules)

pub returns-in-None : goal.returns-in-None
returns-in-None c = only_word 32 c.args.line.now (search rules)
