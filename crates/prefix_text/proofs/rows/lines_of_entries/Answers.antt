use Rattle.std.proofs.Common.{refl}
use Rattle.prefix_text.specs.Rows.{IsLineOf, IsNoLine, HasLines}
use Rattle.prefix_text.proofs.rows.lines_of_entries.Goals as goal

pub returns-clause-first : goal.returns-clause-first
unfolding IsLineOf IsNoLine HasLines
returns-clause-first c = refl

pub returns-clause-second : goal.returns-clause-second
unfolding IsLineOf IsNoLine HasLines
returns-clause-second c = refl

pub returns-clause-host_bits : goal.returns-clause-host_bits
unfolding IsLineOf IsNoLine HasLines
returns-clause-host_bits c = refl

pub returns-clause-empty : goal.returns-clause-empty
unfolding IsLineOf IsNoLine HasLines
returns-clause-empty c = refl

pub returns-clause-three_words : goal.returns-clause-three_words
unfolding IsLineOf IsNoLine HasLines
returns-clause-three_words c = refl

pub returns-clause-two_spaces : goal.returns-clause-two_spaces
unfolding IsLineOf IsNoLine HasLines
returns-clause-two_spaces c = refl

pub returns-clause-space_behind : goal.returns-clause-space_behind
unfolding IsLineOf IsNoLine HasLines
returns-clause-space_behind c = refl

pub returns-clause-return_behind : goal.returns-clause-return_behind
unfolding IsLineOf IsNoLine HasLines
returns-clause-return_behind c = refl

pub returns-clause-other_family : goal.returns-clause-other_family
unfolding IsLineOf IsNoLine HasLines
returns-clause-other_family c = refl

pub returns-clause-no_line : goal.returns-clause-no_line
unfolding IsLineOf IsNoLine HasLines
returns-clause-no_line c = refl

pub returns-clause-empty_line : goal.returns-clause-empty_line
unfolding IsLineOf IsNoLine HasLines
returns-clause-empty_line c = refl

pub returns-clause-last_line : goal.returns-clause-last_line
unfolding IsLineOf IsNoLine HasLines
returns-clause-last_line c = refl

pub returns-clause-ended : goal.returns-clause-ended
unfolding IsLineOf IsNoLine HasLines
returns-clause-ended c = refl
