use Rattle.std.proofs.Common.{ap, is_some}
use Rattle.prefix_view.proofs.NodeViews.{place_of, seen_at_place, seen_nowhere}
use Rattle.prefix_view.proofs.walk.first_at_places.Goals as goal

pub returns-then-places-eq0 : goal.returns-then-places-eq0
returns-then-places-eq0 g c = seen_nowhere (g.V.TrieView.seen c.args.view) c.args.places c.if-places-eq0.true

pub first_place-bit-requires-clause-placed : goal.first_place-bit-requires-clause-placed
first_place-bit-requires-clause-placed g c = λ b e. ap is_some (place_of (g.V.TrieView.seen c.args.view) b (c.requires b e)).1

pub view_at_bit-requires : goal.view_at_bit-requires
view_at_bit-requires g c = c.requires c.first_place-bit.result c.first_place-bit.ensures.set

pub returns-else-places-eq0 : goal.returns-else-places-eq0
returns-else-places-eq0 g c =
    let v = g.V.TrieView.seen c.args.view in
    let bit = c.first_place-bit.result in
    let k = place_of v bit (c.requires bit c.first_place-bit.ensures.set) in
    seen_at_place v c.args.places bit k.0 (g.V.TrieView.seen c.view_at_bit.result) c.requires k.1 c.first_place-bit.ensures.set
    (λ b t is e. c.first_place-bit.ensures.first b k.0 t k.1 is e) (c.view_at_bit.ensures k.0 k.1)
