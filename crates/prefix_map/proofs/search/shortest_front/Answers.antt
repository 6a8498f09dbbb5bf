use Rattle.std.proofs.Common.{◌≤◌, ◌∙◌, take, sym, ap, subst, arith}
use Rattle.std.specs.FinMap as map
use Rattle.prefix_model.specs.Matches.{IsShortestEntry}
use Rattle.prefix_model.proofs.Matching.FrontMatches.{shortest_entry}
use Rattle.prefix_map.proofs.search.shortest_front.Goals as goal

pub found_of-requires : goal.found_of-requires
found_of-requires g c = let below = c.in-Some.ensures.below in let fits = c.requires in omega (arith, below, fits)

pub returns-in-Some-clause-found : goal.returns-in-Some-clause-found
returns-in-Some-clause-found g c =
    let m = c.args.table.now.entries in
    let bits = g.R.Bits.bits c.args.key in
    let within = subst (λ n. c.args.to ≤ n) (sym (g.met.R.Bits.length_law c.args.key)) c.requires in
    let found = c.found_of.ensures in
    let key = found.front.front ∙ ap (λ n. take n bits) found.len in
    subst (IsShortestEntry (map.get m) bits c.args.from c.args.to) (λ j. (sym key j, sym found.value j))
    (shortest_entry m bits c.args.to within c.args.from c.in-Some.found.len c.in-Some.found.value.now c.in-Some.ensures)

pub returns-in-Some-clause-key : goal.returns-in-Some-clause-key
returns-in-Some-clause-key g c =
    let below = c.in-Some.ensures.below in
    let front = c.found_of.ensures.front in
    let fits = front.fits in
    record { fits = omega (arith, below, fits); front = front.front; zeros = front.zeros }

pub returns-in-None-clause-found : goal.returns-in-None-clause-found
returns-in-None-clause-found g c = λ n least most. c.in-None.ensures n least (omega (arith, most))
