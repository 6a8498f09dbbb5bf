use Rattle.std.proofs.Common.{◌≡◌, ◌-◌, ◌+◌, ◌<◌, suc, rules, drop, take, replicate, true, false, ap, ◌∙◌, subst, arith}
use Rattle.std.specs.Option.{option_copied, option_or}
use Rattle.std.specs.FinMap as map
use Rattle.prefix_model.specs.Aggregates.{unless_same}
use Rattle.prefix_model.specs.TableViews.{key_of}
use Rattle.prefix_table.specs.Places.{StandsFor, key_at}
use Rattle.prefix_aggregate.proofs.PlacingLaws.{key_zero, rest_zero, key_one, rest_one}
use Rattle.prefix_aggregate.proofs.ConsistentLaws.{half_stands}
use Rattle.prefix_aggregate.proofs.CoverageLaws.{none_stored}
use Rattle.prefix_aggregate.proofs.ConsistentLaws.{stored_none, stored_last, stored_steps, on_ok}
use Rattle.prefix_aggregate.proofs.consistent.+store_changed.Goals as goal

pub returns-in_default-clause-entries : goal.returns-in_default-clause-entries
returns-in_default-clause-entries g t c =
    let s = key_of (g.R.Bits.bits c.args.key) c.args.len in
    stored_none g.T.PartialEq.eq c.args.table.now s (option_copied c.args.above) (g.R.Bits.WIDTH - c.args.len) c.args.consistent.now.entries (none_stored c.args.table.now c.args.place s c.in_default.is c.requires.place)

pub returns-then-len-WIDTH-clause-entries : goal.returns-then-len-WIDTH-clause-entries
returns-then-len-WIDTH-clause-entries g t c =
    let view = c.args.table.now in
    let s = key_of (g.R.Bits.bits c.args.key) c.args.len in
    let here : key_at view c.in-Some.place ≡ s = subst (λ p. StandsFor view p s) c.in-Some.is c.requires.place in
    let value = c.changed.ensures ∙ ap (λ x. unless_same g.T.PartialEq.eq x (option_copied c.args.above)) (c.value_at.ensures ∙ ap (map.get view.entries) here) in
    let width = c.WIDTH.ensures in
    let none : g.R.Bits.WIDTH - c.args.len ≡ 0 = omega arith in
    stored_last g.T.PartialEq.eq view s (option_copied c.args.above) (g.R.Bits.WIDTH - c.args.len) c.args.consistent.now.entries c.store.new.table.entries (option_copied c.changed.result) none value c.in_ok-store.ensures.entries

pub store_changed-requires : goal.store_changed-requires
store_changed-requires g t c κs within =
    let width = c.WIDTH.ensures in
    let deep : c.args.len < g.R.Bits.WIDTH = omega arith in
    let view = c.args.table.now in
    let bits = g.R.Bits.bits c.args.key in
    let here : key_at view c.in-Some.place ≡ key_of bits c.args.len = subst (λ p. StandsFor view p (key_of bits c.args.len)) c.in-Some.is c.requires.place in
    let stands : StandsFor view c.half-low.result (key_of bits (c.args.len + 1)) =
    half_stands view c.half-low.result (key_at view c.in-Some.place) (key_of bits c.args.len) (key_of bits (c.args.len + 1)) false here (key_zero bits c.args.len g.R.Bits.WIDTH deep c.requires.rest) c.half-low.ensures.place in
    let rest = rest_zero bits c.args.len g.R.Bits.WIDTH deep c.requires.rest in
    search rules

pub store_changed-requires-2 : goal.store_changed-requires-2
store_changed-requires-2 g t c κs within =
    let width = c.WIDTH.ensures in
    let deep : c.args.len < g.R.Bits.WIDTH = omega arith in
    let view = c.args.table.now in
    let bits = g.R.Bits.bits c.args.key in
    let here : key_at view c.in-Some.place ≡ key_of bits c.args.len = subst (λ p. StandsFor view p (key_of bits c.args.len)) c.in-Some.is c.requires.place in
    let stands : StandsFor view c.half-high.result (key_of (g.R.Bits.bits c.with_bit.result) (c.args.len + 1)) =
    half_stands view c.half-high.result (key_at view c.in-Some.place) (key_of bits c.args.len) (key_of (g.R.Bits.bits c.with_bit.result) (c.args.len + 1)) true here
    (ap (take (c.args.len + 1)) c.with_bit.ensures ∙ key_one bits c.args.len g.R.Bits.WIDTH deep c.requires.rest) c.half-high.ensures.place in
    let rest : drop (c.args.len + 1) (g.R.Bits.bits c.with_bit.result) ≡ replicate (g.R.Bits.WIDTH - (c.args.len + 1)) false = ap (drop (c.args.len + 1)) c.with_bit.ensures ∙ rest_one bits c.args.len g.R.Bits.WIDTH deep c.requires.rest in
    search rules

pub returns-clause-entries : goal.returns-clause-entries
returns-clause-entries g t c =
    let view = c.args.table.now in
    let bits = g.R.Bits.bits c.args.key in
    let s = key_of bits c.args.len in
    let width = c.WIDTH.ensures in
    let deep : c.args.len < g.R.Bits.WIDTH = omega arith in
    let more : g.R.Bits.WIDTH - c.args.len ≡ suc (g.R.Bits.WIDTH - (c.args.len + 1)) = omega arith in
    let here : key_at view c.in-Some.place ≡ s = subst (λ p. StandsFor view p s) c.in-Some.is c.requires.place in
    let value = c.changed.ensures ∙ ap (λ x. unless_same g.T.PartialEq.eq x (option_copied c.args.above)) (c.value_at.ensures ∙ ap (map.get view.entries) here) in
    let answer = c.answer_at-answer.ensures ∙ ap (λ q. option_or (map.get view.entries q) (option_copied c.args.above)) here in
    on_ok c.store_changed-2.result c.store_changed-2.ensures.entries (λ last.
    stored_steps g.T.PartialEq.eq view s (option_copied c.args.above) (g.R.Bits.WIDTH - c.args.len) (g.R.Bits.WIDTH - (c.args.len + 1)) (key_of bits (c.args.len + 1)) (key_of (g.R.Bits.bits c.with_bit.result) (c.args.len + 1))
    (option_copied c.changed.result) (option_copied c.answer_at-answer.result) c.args.consistent.now.entries c.store.new.table.entries c.store_changed.new.consistent.entries c.store_changed-2.new.consistent.entries
    more (key_zero bits c.args.len g.R.Bits.WIDTH deep c.requires.rest) (ap (take (c.args.len + 1)) c.with_bit.ensures ∙ key_one bits c.args.len g.R.Bits.WIDTH deep c.requires.rest)
    value answer c.in_ok-store.ensures.entries c.in_ok-store_changed.ensures.entries last)
