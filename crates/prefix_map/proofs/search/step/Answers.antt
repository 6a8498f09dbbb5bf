use Rattle.std.proofs.Common.{refl, sym, ◌∙◌, arith}
use Rattle.std.specs.FinMap as map
use Rattle.prefix_model.proofs.Fronts.{taken_front}
use Rattle.prefix_map.specs.Searches.{entry_from, walked_from, position_key}
use Rattle.prefix_model.proofs.Walking.SortedWalks.{walk_none}
use Rattle.prefix_map.proofs.WalkSteps.{stays_within, rest_behind}
use Rattle.prefix_model.proofs.Walking.Within.{first_within, none_within, none_from}
use Rattle.prefix_map.proofs.search.step.Goals as goal

pub returns-in_err-found-clause-rest : goal.returns-in_err-found-clause-rest
returns-in_err-found-clause-rest g c =
    let p = c.args.position.now in
    let bits = g.R.Bits.bits in
    let none = walk_none c.args.table.now.entries (walked_from bits p) (position_key bits p) p.inclusive
    (none_from (map.get c.args.table.now.entries) (walked_from bits p) (position_key bits p) p.inclusive c.in_err-found.ensures.first) in
    rw c.from_residual.ensures (none, none)

pub returns-then-inside-clause-found : goal.returns-then-inside-clause-found
returns-then-inside-clause-found g c = let whole = c.in_ok-found.ensures.whole in record { least = omega arith; fits = whole.fits; front = refl; zeros = whole.zeros }

pub returns-then-inside-clause-position : goal.returns-then-inside-clause-position
returns-then-inside-clause-position g c =
    let p = c.args.position.now in
    let bits = g.R.Bits.bits in
    let found = c.in_ok-found.found in
    let first = first_within (map.get c.args.table.now.entries) (walked_from bits p) (position_key bits p) p.inclusive (entry_from bits 0 found) (sym c.is_within-inside.ensures ∙ c.if-inside.true) c.in_ok-found.ensures.first in
    record {
      within = stays_within bits g.R.Bits.WIDTH g.met.R.Bits.length_law c.args.table.now.entries p c.requires.position found first (returns-then-inside-clause-found g c);
      fits = let whole = c.in_ok-found.ensures.whole in whole.fits;
    }

pub returns-then-inside-clause-rest : goal.returns-then-inside-clause-rest
returns-then-inside-clause-rest g c =
    let p = c.args.position.now in
    let bits = g.R.Bits.bits in
    let found = c.in_ok-found.found in
    let first = first_within (map.get c.args.table.now.entries) (walked_from bits p) (position_key bits p) p.inclusive (entry_from bits 0 found) (sym c.is_within-inside.ensures ∙ c.if-inside.true) c.in_ok-found.ensures.first in
    rest_behind bits g.R.Bits.WIDTH g.met.R.Bits.length_law c.args.table.now.entries p c.requires.position found first (returns-then-inside-clause-found g c)

pub returns-then-inside-clause-stored : goal.returns-then-inside-clause-stored
returns-then-inside-clause-stored g c = c.in_ok-found.ensures.first.stored

pub returns-clause-rest : goal.returns-clause-rest
returns-clause-rest g c =
    let p = c.args.position.now in
    let bits = g.R.Bits.bits in
    let found = c.in_ok-found.found in
    let way = taken_front (bits p.key) p.within p.len c.requires.position.within in
    let none = walk_none c.args.table.now.entries (walked_from bits p) (position_key bits p) p.inclusive
    (none_within (map.get c.args.table.now.entries) (walked_from bits p) (position_key bits p) p.inclusive (entry_from bits 0 found) way (sym c.is_within-inside.ensures ∙ c.if-inside.false) c.in_ok-found.ensures.first) in
    (none, none)
