use Rattle.std.proofs.Common.{◌≡◌, ◌++◌, ◌∙◌, true, ap, sym, subst, arith, take}
use Rattle.prefix_model.proofs.KeyPlaces.{places_short}
use Rattle.prefix_model.proofs.Bitmaps.NodeBits.{place_limit}
use Rattle.prefix_model.specs.Walks.{begins_with}
use Rattle.prefix_model.specs.Views.{moved}
use Rattle.prefix_view.proofs.NodeViews.{place_of, place_stored, place_fits, key_of_node}
use Rattle.prefix_view.proofs.walk.view_at_bit.Goals as goal

pub reconstruct_repr-place-requires-clause-slot : goal.reconstruct_repr-place-requires-clause-slot
reconstruct_repr-place-requires-clause-slot g c = let k = place_of (g.V.TrieView.seen c.args.view) c.args.bit c.requires in place_limit c.args.bit k.0 k.1

pub reconstruct_repr-place-requires-clause-within : goal.reconstruct_repr-place-requires-clause-within
reconstruct_repr-place-requires-clause-within g c = λ s is.
    let fits = place_fits (g.V.TrieView.seen c.args.view) _ (g.met.V.TrieView.place_law c.args.view) c.args.bit s is c.requires in
    let d = c.depth.ensures in
    omega (arith, fits, d)

pub reposition-requires-clause-extends : goal.reposition-requires-clause-extends
reposition-requires-clause-extends g c =
    let v = g.V.TrieView.seen c.args.view in
    let k = place_of v c.args.bit c.requires in
    let key = ap (λ n. take n (g.V.P.R.Bits.bits c.reconstruct_repr-place.result.0)) c.from.ensures ∙ c.reconstruct_repr-place.ensures.key k.0 k.1 ∙ ap (λ x. x ++ k.0) (key_of_node v _ _ _ c.key.ensures c.depth.ensures) in
    subst (λ x. begins_with v.place x ≡ true) (sym key) (place_stored v c.args.bit k.0 k.1 c.requires).0

pub reposition-requires-clause-same_node : goal.reposition-requires-clause-same_node
reposition-requires-clause-same_node g c =
    let k = place_of (g.V.TrieView.seen c.args.view) c.args.bit c.requires in
    let short = places_short c.args.bit k.0 k.1 in
    let size = c.reconstruct_repr-place.ensures.length k.0 k.1 in
    let from = c.from.ensures in
    let d = c.depth.ensures in
    omega (arith, short, size, d, from)

pub reposition-requires-clause-within : goal.reposition-requires-clause-within
reposition-requires-clause-within g c =
    let v = g.V.TrieView.seen c.args.view in
    let k = place_of v c.args.bit c.requires in
    let fits = place_fits v _ (g.met.V.TrieView.place_law c.args.view) c.args.bit k.0 k.1 c.requires in
    let size = c.reconstruct_repr-place.ensures.length k.0 k.1 in
    let from = c.from.ensures in
    let d = c.depth.ensures in
    omega (arith, fits, size, d, from)

pub returns : goal.returns
returns g c = λ s is.
    let v = g.V.TrieView.seen c.args.view in
    let key = ap (λ n. take n (g.V.P.R.Bits.bits c.reconstruct_repr-place.result.0)) c.from.ensures ∙ c.reconstruct_repr-place.ensures.key s is ∙ ap (λ x. x ++ s) (key_of_node v _ _ _ c.key.ensures c.depth.ensures) in
    c.reposition.ensures ∙ ap (moved v) key
