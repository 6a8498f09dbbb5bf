use Rattle.std.proofs.Common.{◌≡◌, ◌∷◌, false, take, refl, sym, ap, ◌∙◌, subst, arith}
use Rattle.prefix_map.specs.Items.{rest}
use Rattle.prefix_map.specs.MapViews.{MapView, FitsIn}
use Rattle.prefix_map.specs.declared.search.Position.{Position}
use Rattle.prefix_map.proofs.ItemLaws.{item_itself}
use Rattle.prefix_map.proofs.WalkSteps.{item_given}
use Rattle.prefix_model.proofs.IteratorLoops.{fewer}
use Rattle.prefix_map.proofs.map.iter.IterIterator.next.Goals as goal

pub step-requires-clause-fits : goal.step-requires-clause-fits
step-requires-clause-fits g c = subst (λ w. FitsIn w c.table.result.now) (sym g.met.P.PrefixBits.width_law) c.table.ensures.fits

pub invariant_of-self : goal.invariant_of-self
invariant_of-self g c =
    let a = c.in_ok-found.ensures.position.within in
    let w = c.in_ok-found.ensures.within in
    let at = c.in_ok-found.ensures.at.len in
    let size = c.prefix_of.ensures.length in
    let fits = c.in_ok-found.ensures.found.fits in
    let width = g.met.P.PrefixBits.width_law in
    record { within_last = omega (arith, a, w, at, size); fits = omega (arith, fits, width, size) }

pub returns-clause-steps : goal.returns-clause-steps
returns-clause-steps g c =
    let s = c.args.self.now in
    let bits = g.P.R.Bits.bits in
    let found = c.in_ok-found.found in
    let p : Position g.row.P-R.Denot = record { key = c.repr.result; within = s.within; len = c.from.result; inclusive = s.inclusive } in
    let q = c.step.new.position in
    let near = g.P.PrefixKey.key c.prefix_of.result in
    let key = g.P.PrefixKey.key s.last in
    let entries = ap (λ (v : MapView g.row.T.Denot). v.entries) c.table.ensures.same in
    let here : take c.from.result (bits c.repr.result) ≡ key = ap (λ n. take n (bits c.repr.result)) (c.from.ensures ∙ c.prefix_len.ensures) ∙ c.repr.ensures.key in
    let inside = s.within_last in
    let size : c.from.result ≡ g.P.PrefixKey.prefix_len s.last = c.from.ensures ∙ c.prefix_len.ensures in
    let at = c.in_ok-found.ensures.at in
    let is_near : take found.len (bits found.key) ≡ near = sym c.prefix_of.ensures.item.key_is in
    let there : take q.len (bits q.key) ≡ near = (λ j. take (at.len j) (bits (at.key j))) ∙ is_near in
    let given = item_given bits c.table.result.now.entries c.in_ok-map.map.now.entries entries p q found key near s.within s.inclusive refl refl here (omega (arith, inside, size))
    c.in_ok-found.ensures.within at.passed there c.in_ok-found.ensures.position.within is_near c.in_ok-found.ensures.rest in
    let whole : rest s.map key s.within s.inclusive ≡ (near, found.value.now) ∷ rest s.map near s.within false =
    ap (λ m. rest m key s.within s.inclusive) c.in_ok-map.was ∙ given ∙ ap (λ m. (near, found.value.now) ∷ rest m near s.within false) (sym c.in_ok-map.was) in
    let again : near ≡ g.P.PrefixKey.key c.prefix_of-2.result = c.prefix_of.ensures.item.key_is ∙ sym c.prefix_of-2.ensures.item.key_is in (
      whole ∙ ap (λ k. (k, found.value.now) ∷ rest s.map near s.within false) again,
      item_itself g.P.R.Bits.WIDTH g.P.PrefixKey c.prefix_of-2.result _ c.prefix_of-2.ensures.item,
    )

pub returns-clause-goes : goal.returns-clause-goes
returns-clause-goes g c = let e = (returns-clause-steps g c).0 in record { on = λ _. (tt, tt, fewer _ _ _ e); keeps = tt; rests = λ _. tt }
