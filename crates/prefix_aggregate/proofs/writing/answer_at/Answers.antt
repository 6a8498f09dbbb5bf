use Rattle.std.proofs.Common.{sym, ap}
use Rattle.std.specs.Option.{option_copied, option_or}
use Rattle.std.specs.FinMap as map
use Rattle.prefix_model.specs.TableViews.{position_at}
use Rattle.prefix_aggregate.specs.Reading.{place_key}
use Rattle.prefix_aggregate.proofs.BelowLaws.{value_set, value_clear}
use Rattle.prefix_aggregate.proofs.ReadingLaws.{key_place}
use Rattle.prefix_aggregate.proofs.writing.answer_at.Goals as goal

pub value-requires-clause-set : goal.value-requires-clause-set
value-requires-clause-set g c = value_set (map.get c.args.table.now.entries) (position_at c.args.table.now c.args.at) c.args.bits c.args.place c.requires.bits c.if-bits-place-eq1.true

pub returns-then-bits-place-eq1 : goal.returns-then-bits-place-eq1
returns-then-bits-place-eq1 g c = sym (ap (λ o. option_or o (option_copied c.args.above)) (c.value.ensures (place_key c.args.place) (key_place c.args.place c.requires.place)))

pub returns-else-bits-place-eq1 : goal.returns-else-bits-place-eq1
returns-else-bits-place-eq1 g c = sym (ap (λ o. option_or o (option_copied c.args.above)) (value_clear (map.get c.args.table.now.entries) (position_at c.args.table.now c.args.at) c.args.bits c.args.place c.requires.bits c.if-bits-place-eq1.false (place_key c.args.place) (key_place c.args.place c.requires.place)))
