use Rattle.std.proofs.Common.{refl}
use Rattle.std.specs.Fmt.{digits}
use Rattle.prefix_text.specs.Rows.{HasText}
use Rattle.prefix_text.specs.Texts.{hex_digits}
use Rattle.prefix_text.proofs.rows.lines_that_are_printed.Goals as goal

pub returns-clause-first : goal.returns-clause-first
unfolding HasText hex_digits digits
returns-clause-first c = refl

pub returns-clause-second : goal.returns-clause-second
unfolding HasText hex_digits digits
returns-clause-second c = refl
