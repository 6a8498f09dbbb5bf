use Rattle.std.proofs.Common.{ap, sym}
use Rattle.std.specs.Option.{option_or}
use Rattle.std.specs.FinMap as map
use Rattle.prefix_model.specs.TableViews.{position_at}
use Rattle.prefix_aggregate.specs.Trees.{given}
use Rattle.prefix_aggregate.specs.Reading.{place_key}
use Rattle.prefix_aggregate.proofs.AnswerLaws.{if_ok}
use Rattle.prefix_aggregate.proofs.BelowLaws.{value_set, value_clear, one_given, one_value}
use Rattle.prefix_aggregate.proofs.PartLaws.{kept_none}
use Rattle.prefix_aggregate.proofs.ReadingLaws.{key_place}
use Rattle.prefix_aggregate.proofs.collecting.answer_of.Goals as goal

pub value-requires-clause-set : goal.value-requires-clause-set
value-requires-clause-set g c = value_set (map.get c.args.table.now.entries) (position_at c.args.table.now c.args.at) c.args.bits c.args.place c.requires.bits c.if-bits-place-eq1.true

pub returns-then-bits-place-eq1-clause-part : goal.returns-then-bits-place-eq1-clause-part
returns-then-bits-place-eq1-clause-part g c = if_ok c.add_value.result c.add_value.ensures.part (λ part one. one_given c.add_value.new.work.values.items part _ one)

pub returns-then-bits-place-eq1-clause-value : goal.returns-then-bits-place-eq1-clause-value
returns-then-bits-place-eq1-clause-value g c = if_ok c.add_value.result c.add_value.ensures.part (λ part one. one_value c.add_value.new.work.values.items part _ (map.get c.args.table.now.entries _) (given c.args.work.now.values.items c.args.above) one (c.value.ensures (place_key c.args.place) (key_place c.args.place c.requires.place)))

pub returns-else-bits-place-eq1-clause-kept : goal.returns-else-bits-place-eq1-clause-kept
returns-else-bits-place-eq1-clause-kept g c = kept_none c.args.work.now.values.items

pub returns-else-bits-place-eq1-clause-value : goal.returns-else-bits-place-eq1-clause-value
returns-else-bits-place-eq1-clause-value g c = ap (λ o. option_or o (given c.args.work.now.values.items c.args.above)) (sym (value_clear (map.get c.args.table.now.entries) (position_at c.args.table.now c.args.at) c.args.bits c.args.place c.requires.bits c.if-bits-place-eq1.false (place_key c.args.place) (key_place c.args.place c.requires.place)))
