use Rattle.std.proofs.Common.{◌≡◌, ◌+◌, ◌++◌, ◌∙◌, take, ap, arith, Option, Some, None}
use Rattle.std.specs.Prelude.{MatchOption}
use Rattle.prefix_model.specs.Keys.{low_bits}
use Rattle.prefix_model.specs.Walks.{begins_with}
use Rattle.prefix_model.proofs.KeyPieces.{taken_length}
use Rattle.prefix_map.proofs.Descents.{there, next_none}
use Rattle.prefix_model.proofs.Walking.FromNode.{child_whole}
use Rattle.prefix_model.proofs.Matching.FrontMatches.{none_under}
use Rattle.prefix_map.proofs.hits.child_towards.Goals as goal

in_each : {A N M : Type 0} {F G : A → Type 0} (o : Option A) → (N → M) → ((x : A) → F x → G x) → MatchOption o N F → MatchOption o M G
in_each None none some h = none h
in_each (Some x) none some h = some x h

pub returns : goal.returns
returns g c =
    let view = c.args.table.now in
    let bits = g.R.Bits.bits c.args.key in
    let d = c.args.depth in
    let p = take d bits in
    let fits = c.requires.within in
    let size = taken_length bits d g.R.Bits.WIDTH (g.met.R.Bits.length_law c.args.key) (omega (arith, fits)) in
    let whole : p ++ low_bits 5 c.child_bit.result ≡ take (d + 5) bits = ap (λ z. p ++ z) c.child_bit.ensures.bits ∙ child_whole bits d in
    in_each c.child.result
    (λ off n. none_under view.entries bits (d + 5) n (λ k stored front. next_none view p c.args.at c.requires.named c.requires.holds d size c.child_bit.result off k stored (ap (λ z. begins_with z k) whole ∙ front)))
    (λ child h. h ∙ ap (λ q. Some (q ++ low_bits 5 c.child_bit.result)) (there view p c.args.at c.requires.named) ∙ ap Some whole)
    c.child.ensures
