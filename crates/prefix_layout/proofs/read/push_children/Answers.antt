use Rattle.std.proofs.Common.{◌≡◌, ℕ, ◌+◌, ◌-◌, ◌<◌, false, List, [], ◌∷◌, ◌++◌, length, map, take, replicate, refl, sym, ap, ◌∙◌, subst, arith, append_assoc, length-append, length-take}
use Rattle.std.specs.List.{AllByRecursion}
use Rattle.std.proofs.lemmas.List.{map-append, take_at}
use Rattle.prefix_model.specs.Keys.{KeyBits, low_bits}
use Rattle.prefix_model.specs.Masks.{set_bits}
use Rattle.prefix_model.proofs.KeyNumbers.{length-low_bits}
use Rattle.prefix_model.specs.TableViews.{key_of}
use Rattle.prefix_layout.specs.declared.read.Waiting.{Waiting}
use Rattle.prefix_layout.specs.Reads.{set_children, keys_below, waiting_key, waiting_keys, waiting_depths}
use Rattle.prefix_layout.proofs.SetBits.{children_read, set_bits_small}
use Rattle.prefix_layout.proofs.Pushing.{Pushing, child_pushed, child_deep, all_pushed}
use Rattle.prefix_layout.proofs.read.push_children.Goals as goal

pub loop-child-init : goal.loop-child-init
loop-child-init g c =
    let bits = g.R.Bits.bits in
    let d = c.args.depth in
    let p : KeyBits = key_of (bits c.args.path) d in
    let x = c.args.child_bits in
    let queue = c.args.queue.now.items in
    let rest : c.into_iter-child-iterator.result ≡ set_bits x = cc in
    let keys : List KeyBits = waiting_keys bits queue ++ keys_below p x in
    let depths : List ℕ = waiting_depths queue ++ replicate (length (set_children x)) (d + 5) in
    let start : Pushing g.R.Bits.WIDTH d p keys depths (set_children x) (waiting_keys bits queue) (waiting_depths queue) = record { deep = c.requires; keys_are = refl; depths_are = refl } in
    record {
      can_next = tt;
      is_finite = tt;
      small = subst (AllByRecursion (λ b. b < 32)) (sym rest) (set_bits_small x);
      pushing = subst (λ (todo : List KeyBits). Pushing g.R.Bits.WIDTH d p keys depths todo (waiting_keys bits queue) (waiting_depths queue)) (children_read x ∙ ap (map (low_bits 5)) (sym rest)) start;
    }

pub extend_repr-requires-clause-within : goal.extend_repr-requires-clause-within
extend_repr-requires-clause-within g c = child_deep c.in-Some.ensures.steps c.loop-child.invariant.pushing

pub extend_repr-requires-clause-slot : goal.extend_repr-requires-clause-slot
extend_repr-requires-clause-slot g c = (subst (AllByRecursion (λ b. b < 32)) c.in-Some.ensures.steps c.loop-child.invariant.small).0

pub overflow_add-depth : goal.overflow_add-depth
overflow_add-depth g c = let deep = child_deep c.in-Some.ensures.steps c.loop-child.invariant.pushing in omega (arith, deep, g.met.R.Bits.greatest_width_law)

pub loop-child-preserved : goal.loop-child-preserved
loop-child-preserved g c =
    let bits = g.R.Bits.bits in
    let d = c.args.depth in
    let p : KeyBits = key_of (bits c.args.path) d in
    let s = low_bits 5 c.in-Some.child in
    let now = c.loop-child.queue.items in
    let after = c.push_node.new.queue.items in
    let spot : Waiting g.row.R.Denot = record { path = c.extend_repr.result; depth = d + 5 } in
    let deep = child_deep c.in-Some.ensures.steps c.loop-child.invariant.pushing in
    let size : length (p ++ s) ≡ d + 5 = omega (arith, length-append p s, length-low_bits 5 c.in-Some.child, length-take d (bits c.args.path), g.met.R.Bits.length_law c.args.path) in
    let zeros = replicate (g.R.Bits.WIDTH - (d + 5)) false in
    let key : key_of (bits c.extend_repr.result) (d + 5) ≡ p ++ s = ap (take (d + 5)) (c.extend_repr.ensures ∙ sym (append_assoc p s zeros)) ∙ take_at (p ++ s) zeros (d + 5) size in
    record {
      can_next = tt;
      is_finite = tt;
      small = (subst (AllByRecursion (λ b. b < 32)) c.in-Some.ensures.steps c.loop-child.invariant.small).1;
      pushing =
          child_pushed c.in-Some.ensures.steps c.loop-child.invariant.pushing (waiting_keys bits after) (waiting_depths after)
          (ap (waiting_keys bits) c.in_ok-push_node.ensures ∙ map-append (waiting_key bits) now (spot ∷ []) ∙ ap (λ (k : KeyBits). waiting_keys bits now ++ k ∷ []) key)
          (ap waiting_depths c.in_ok-push_node.ensures ∙ map-append (λ (x : Waiting g.row.R.Denot). x.depth) now (spot ∷ []));
    }

pub returns : goal.returns
returns g c =
    let done = all_pushed c.in-None.ensures.steps.0 c.loop-child.invariant.pushing in record { keys = done.0; depths = done.1 }
