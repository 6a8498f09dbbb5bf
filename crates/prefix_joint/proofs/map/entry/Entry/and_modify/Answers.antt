use Rattle.std.proofs.Common.{◌≡◌, refl, sym, ap, ◌∙◌, subst}
use Rattle.std.specs.Map.Calls.{MayWrite, ModifiesValue}
use Rattle.prefix_joint.specs.JointEntries.{entry_value}
use Rattle.prefix_joint.proofs.map.entry.Entry.and_modify.Goals as goal

at_both : {X : Type 0} (P : X → X → Type 0) (p q a b : X) → p ≡ a → q ≡ b → P a b → P p q
at_both P p q a b x y h = subst (λ r. P r q) (sym x) (subst (P a) (sym y) h)

pub returns-in-Occupied-clause-update : goal.returns-in-Occupied-clause-update
returns-in-Occupied-clause-update g c =
    let u = c.f.new.arg2 in
    let old = ap entry_value c.in-Occupied.is ∙ c.get_mut.ensures.value in
    let did : MayWrite g.F.FnOnce c.args.f c.get_mut.result.now u = record { lent = c.get_mut.result; result = c.f.result; left = _; before = refl; met = c.f.ensures; after = refl } in
    at_both (ModifiesValue g.F.FnOnce c.args.f) _ _ _ _ old (c.get_mut.ensures.written u).2 did
