use Rattle.prefix_table.proofs.BarePlaces.{run_clear, none_set}
use Rattle.prefix_table.proofs.places.any_between.Goals as goal

pub returns : goal.returns
returns c = λ none. run_clear c.args.bits c.args.start c.args.count c.requires.count (none_set _ none)
