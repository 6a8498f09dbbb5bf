use Rattle.std.proofs.Common.{◌≡◌, ◌∷◌, false, take, refl, sym, ap, ◌∙◌, subst, arith}
use Rattle.std.specs.FinMap as map
use Rattle.prefix_model.specs.Walks.{walk_rest}
use Rattle.prefix_map.specs.MapViews.{MapView, FitsIn}
use Rattle.prefix_map.specs.declared.search.Position.{Position}
use Rattle.prefix_map.proofs.WalkSteps.{item_given, none_given}
use Rattle.prefix_map.proofs.ItemLaws.{item_itself}
use Rattle.prefix_map.proofs.map.cursor.Walk.advance.Goals as goal

pub step-requires-clause-fits : goal.step-requires-clause-fits
step-requires-clause-fits g c = subst (λ w. FitsIn w c.table.result.now) (sym g.met.P.PrefixBits.width_law) c.table.ensures.fits

pub returns-in_err-found-clause-gives : goal.returns-in_err-found-clause-gives
returns-in_err-found-clause-gives g c =
    let s = c.args.self.now in
    let bits = g.P.R.Bits.bits in
    let p : Position g.row.P-R.Denot = record { key = c.repr.result; within = s.within; len = c.from.result; inclusive = s.inclusive } in
    let key = g.P.PrefixKey.key s.last in
    let entries = ap (λ (v : MapView g.row.T.Denot). v.entries) c.table.ensures.same in
    let here : take c.from.result (bits c.repr.result) ≡ key = ap (λ n. take n (bits c.repr.result)) (c.from.ensures ∙ c.prefix_len.ensures) ∙ c.repr.ensures.key in
    let inside = s.within_last in
    let size : c.from.result ≡ g.P.PrefixKey.prefix_len s.last = c.from.ensures ∙ c.prefix_len.ensures in
    let none = none_given bits c.table.result.now.entries c.args.map.now.entries entries p key s.within s.inclusive refl refl here (omega (arith, inside, size)) c.in_err-found.ensures.rest.0 in
    rw c.from_residual.ensures (none, none)

pub returns-clause-held : goal.returns-clause-held
returns-clause-held g c =
    let s = c.args.self.now in
    let bits = g.P.R.Bits.bits in
    let found = c.in_ok-found.found in
    let p : Position g.row.P-R.Denot = record { key = c.repr.result; within = s.within; len = c.from.result; inclusive = s.inclusive } in
    let q = c.step.new.position in
    let m = c.args.map.now.entries in
    let near = g.P.PrefixKey.key c.prefix_of.result in
    let key = g.P.PrefixKey.key s.last in
    let entries = ap (λ (v : MapView g.row.T.Denot). v.entries) c.table.ensures.same in
    let here : take c.from.result (bits c.repr.result) ≡ key = ap (λ n. take n (bits c.repr.result)) (c.from.ensures ∙ c.prefix_len.ensures) ∙ c.repr.ensures.key in
    let inside = s.within_last in
    let size : c.from.result ≡ g.P.PrefixKey.prefix_len s.last = c.from.ensures ∙ c.prefix_len.ensures in
    let at = c.in_ok-found.ensures.at in
    let is_near : take found.len (bits found.key) ≡ near = sym c.prefix_of.ensures.item.key_is in
    let there : take q.len (bits q.key) ≡ near = (λ j. take (at.len j) (bits (at.key j))) ∙ is_near in
    let given = item_given bits c.table.result.now.entries m entries p q found key near s.within s.inclusive refl refl here (omega (arith, inside, size))
    c.in_ok-found.ensures.within at.passed there c.in_ok-found.ensures.position.within is_near c.in_ok-found.ensures.rest in
    let again : near ≡ g.P.PrefixKey.key c.prefix_of-2.result = c.prefix_of.ensures.item.key_is ∙ sym c.prefix_of-2.ensures.item.key_is in
    record {
      value = found.value.now;
      first = given ∙ ap (λ k. (k, found.value.now) ∷ walk_rest m near s.within false) again;
      stored = ap (λ x. map.get x (g.P.PrefixKey.key c.prefix_of-2.result)) (sym entries) ∙ ap (map.get c.table.result.now.entries) (sym again ∙ sym is_near) ∙ c.in_ok-found.ensures.stored;
    }

pub returns-clause-gives : goal.returns-clause-gives
returns-clause-gives g c =
    let found = c.in_ok-found.found in
    let held = returns-clause-held g c in (
      held.value,
      held.first,
      item_itself g.P.R.Bits.WIDTH g.P.PrefixKey c.prefix_of-2.result _ c.prefix_of-2.ensures.item,
    )
