use Rattle.std.proofs.Common.{[], Some, None, take, sym, ◌∙◌, subst}
use Rattle.std.specs.FinMap as map
use Rattle.prefix_model.specs.Keys.{KeyBits, low_bits}
use Rattle.prefix_model.specs.NodeSearches.{IsFirstOf, StandsBelow}
use Rattle.prefix_model.proofs.Walking.Within.{first_within, none_within, none_from}
use Rattle.prefix_archive.proofs.map.iter.first_below.Goals as goal

pub returns-in_err-found-clause-first : goal.returns-in_err-found-clause-first
returns-in_err-found-clause-first g c =
    let view = c.args.view.now in
    let q = take c.args.len (g.P.R.Bits.bits c.args.key) in
    let none = none_from (map.get view.at.map.table.entries) (low_bits view.prefix_len view.place) q c.args.inclusive
    (subst (λ a. IsFirstOf (map.get a.table.entries) (StandsBelow [] q c.args.inclusive) None) c.map.ensures c.in_err-found.ensures.first) in
    rw c.from_residual.ensures none

pub returns-then-inside-clause-first : goal.returns-then-inside-clause-first
returns-then-inside-clause-first g c =
    let view = c.args.view.now in
    let q = take c.args.len (g.P.R.Bits.bits c.args.key) in
    let found = c.in_ok-found.found in
    let e : KeyBits × _ = (take found.len (g.P.R.Bits.bits found.key), found.value.spelling.value) in
    first_within (map.get view.at.map.table.entries) (low_bits view.prefix_len view.place) q c.args.inclusive e (sym c.is_below-inside.ensures ∙ c.if-inside.true)
    (subst (λ a. IsFirstOf (map.get a.table.entries) (StandsBelow [] q c.args.inclusive) (Some e)) c.map.ensures c.in_ok-found.ensures.first)

pub returns-clause-first : goal.returns-clause-first
returns-clause-first g c =
    let view = c.args.view.now in
    let q = take c.args.len (g.P.R.Bits.bits c.args.key) in
    let found = c.in_ok-found.found in
    let e : KeyBits × _ = (take found.len (g.P.R.Bits.bits found.key), found.value.spelling.value) in
    none_within (map.get view.at.map.table.entries) (low_bits view.prefix_len view.place) q c.args.inclusive e c.requires.inside (sym c.is_below-inside.ensures ∙ c.if-inside.false)
    (subst (λ a. IsFirstOf (map.get a.table.entries) (StandsBelow [] q c.args.inclusive) (Some e)) c.map.ensures c.in_ok-found.ensures.first)
