use Rattle.std.proofs.Common.{◌≡◌, ◌∷◌, Some, None, true, false, take, length, sym, ap, ◌∙◌, subst, arith, length-take}
use Rattle.std.specs.FinMap as map
use Rattle.prefix_model.specs.Keys.{low_bits}
use Rattle.prefix_model.specs.Walks.{begins_with}
use Rattle.prefix_model.specs.Searches.{IsFirst, in_walk}
use Rattle.prefix_model.proofs.Walking.SortedWalks.{walk_none, walk_some}
use Rattle.prefix_model.proofs.IteratorLoops.{fewer}
use Rattle.prefix_archive.specs.ArchivedViews.{seen_in}
use Rattle.prefix_archive.specs.Iterating.{left_of, is_inside}
use Rattle.prefix_archive.proofs.Iterating.{first_given, none_given}
use Rattle.prefix_archive.proofs.map.iter.IterIterator.next.Goals as goal

pub invariant_of-self : goal.invariant_of-self
invariant_of-self g c =
    let s = c.args.self.now in
    let view = c.in_ok-view.view in
    let found = c.in_ok-found.found in
    let l = c.in_ok-found.ensures.fits in
    let t = length-take found.len (g.P.R.Bits.bits found.key) in
    let n = c.prefix_of.ensures.length in
    let k = ap length c.prefix_of.ensures.key in
    record {
      fits = omega (arith, l, t, n, k);
      inside =
          subst (λ o. is_inside (λ v. seen_in v.at.map.table.entries v.place v.prefix_len) o (g.P.PrefixKey.key c.prefix_of.result) ≡ true) (sym c.in_ok-view.was)
          (ap (begins_with (low_bits view.prefix_len view.place)) c.prefix_of.ensures.key ∙ c.in_ok-found.ensures.below);
    }

pub returns-in_err-found-clause-steps : goal.returns-in_err-found-clause-steps
returns-in_err-found-clause-steps g c =
    let s = c.args.self.now in
    let view = c.in_ok-view.view in
    let m = view.at.map.table.entries in
    let place = low_bits view.prefix_len view.place in
    let key = g.P.PrefixKey.key s.last in
    let here = ap (λ n. take n (g.P.R.Bits.bits c.repr.result)) (c.from-len.ensures ∙ c.prefix_len.ensures) ∙ c.repr.ensures.key in
    let none = none_given (λ v. seen_in v.at.map.table.entries v.place v.prefix_len) s.view key s.inclusive view c.in_ok-view.was
    (walk_none m place key s.inclusive (subst (λ q. IsFirst (map.get m) (in_walk place q s.inclusive) None) here c.in_err-found.ensures.first)) in
    rw c.from_residual-in_err-found.ensures ((none, none), tt)

pub returns-clause-steps : goal.returns-clause-steps
returns-clause-steps g c =
    let s = c.args.self.now in
    let view = c.in_ok-view.view in
    let m = view.at.map.table.entries in
    let place = low_bits view.prefix_len view.place in
    let key = g.P.PrefixKey.key s.last in
    let found = c.in_ok-found.found in
    let near = take found.len (g.P.R.Bits.bits found.key) in
    let value = found.value.spelling.value in
    let last = g.P.PrefixKey.key c.prefix_of.result in
    let again : g.P.PrefixKey.key c.prefix_of-2.result ≡ last = c.prefix_of-2.ensures.key ∙ sym c.prefix_of.ensures.key in
    let here = ap (λ n. take n (g.P.R.Bits.bits c.repr.result)) (c.from-len.ensures ∙ c.prefix_len.ensures) ∙ c.repr.ensures.key in
    let walked = walk_some m place key s.inclusive (near, value) (subst (λ q. IsFirst (map.get m) (in_walk place q s.inclusive) (Some (near, value))) here c.in_ok-found.ensures.first) in
    let given = first_given (λ v. seen_in v.at.map.table.entries v.place v.prefix_len) s.view key s.inclusive view near value _ last c.in_ok-view.was walked c.prefix_of.ensures.key in (
      given ∙ (λ i. (sym again i, value) ∷ left_of (λ v. seen_in v.at.map.table.entries v.place v.prefix_len) s.view last false),
      (c.prefix_of-2.ensures.length, c.prefix_of-2.ensures.bits),
    )

pub returns-clause-goes : goal.returns-clause-goes
returns-clause-goes g c = let e = (returns-clause-steps g c).0 in record { on = λ _. (tt, tt, fewer _ _ _ e); keeps = tt; rests = λ _. tt }
