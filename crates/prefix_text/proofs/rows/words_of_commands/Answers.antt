use Rattle.std.proofs.Common.{refl}
use Rattle.prefix_text.specs.Rows.{IsCommand, IsNoCommand}
use Rattle.prefix_text.proofs.rows.words_of_commands.Goals as goal

pub returns-clause-none : goal.returns-clause-none
unfolding IsCommand IsNoCommand
returns-clause-none c = refl

pub returns-clause-word_behind : goal.returns-clause-word_behind
unfolding IsCommand IsNoCommand
returns-clause-word_behind c = refl

pub returns-clause-leading_zero : goal.returns-clause-leading_zero
unfolding IsCommand IsNoCommand
returns-clause-leading_zero c = refl

pub returns-clause-short_address : goal.returns-clause-short_address
unfolding IsCommand IsNoCommand
returns-clause-short_address c = refl

pub returns-clause-sign : goal.returns-clause-sign
unfolding IsCommand IsNoCommand
returns-clause-sign c = refl

pub returns-clause-large_value : goal.returns-clause-large_value
unfolding IsCommand IsNoCommand
returns-clause-large_value c = refl

pub returns-clause-large_count : goal.returns-clause-large_count
unfolding IsCommand IsNoCommand
returns-clause-large_count c = refl

pub returns-clause-long_prefix : goal.returns-clause-long_prefix
unfolding IsCommand IsNoCommand
returns-clause-long_prefix c = refl

pub returns-clause-compact : goal.returns-clause-compact
unfolding IsCommand IsNoCommand
returns-clause-compact c = refl

pub returns-clause-fill : goal.returns-clause-fill
unfolding IsCommand IsNoCommand
returns-clause-fill c = refl

pub returns-clause-lookup : goal.returns-clause-lookup
unfolding IsCommand IsNoCommand
returns-clause-lookup c = refl

pub returns-clause-generate : goal.returns-clause-generate
unfolding IsCommand IsNoCommand
returns-clause-generate c = refl
