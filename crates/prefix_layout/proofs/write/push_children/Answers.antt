use Rattle.std.proofs.Common.{◌≡◌, ◌<◌, ◌∷◌, ◌++◌, ℕ, true, List, map, sym, ap, ◌∙◌, subst}
use Rattle.std.specs.List.{AllByRecursion}
use Rattle.prefix_model.specs.Keys.{low_bits}
use Rattle.prefix_model.specs.Masks.{set_bits}
use Rattle.prefix_model.specs.TableViews.{position_at}
use Rattle.prefix_layout.specs.Writing.{is_kept, children_where}
use Rattle.prefix_layout.proofs.Queue.{Pushed, none_pushed, more_pushed}
use Rattle.prefix_layout.proofs.SetBits.{children_named, children_pass}
use Rattle.prefix_layout.proofs.write.push_children.Goals as goal

pub loop-bit-init : goal.loop-bit-init
loop-bit-init g c =
    let view = c.args.table.now in
    let kept = is_kept view in
    let at = position_at view c.args.at in
    let rest : c.into_iter-bit-iterator.result ≡ set_bits c.args.child_bits = cc in
    record {
      can_next = tt;
      is_finite = tt;
      each = subst (AllByRecursion (λ b. (b < 32) × (kept (at ++ low_bits 5 b) ≡ true))) (sym rest) (children_pass kept at c.args.child_bits c.requires.bits);
      pushed = none_pushed view kept c.args.nodes.now.items (children_where kept at) _ (children_named kept at c.args.child_bits c.requires.bits ∙ ap (map (λ (b : ℕ). at ++ low_bits 5 b)) (sym rest));
    }

pub loop-bit-preserved : goal.loop-bit-preserved
loop-bit-preserved g c =
    let view = c.args.table.now in
    let kept = is_kept view in
    let at = position_at view c.args.at in
    let step : c.loop-bit.bit-iterator ≡ c.in-Some.bit ∷ c.next.new.self = c.in-Some.ensures.steps in
    record {
      can_next = tt;
      is_finite = tt;
      each = (subst (AllByRecursion (λ b. (b < 32) × (kept (at ++ low_bits 5 b) ≡ true))) step c.loop-bit.invariant.each).1;
      pushed =
          more_pushed view kept c.args.nodes.now.items c.loop-bit.nodes.items _ (at ++ low_bits 5 c.in-Some.bit) _ (children_where kept at)
          (subst (λ (bs : List ℕ). Pushed view kept c.args.nodes.now.items c.loop-bit.nodes.items (map (λ b. at ++ low_bits 5 b) bs) (children_where kept at)) step c.loop-bit.invariant.pushed)
          c.in_ok-push_child.ensures;
    }
