use Rattle.std.proofs.Common.{◌∙◌}
use Rattle.prefix_view.proofs.KeptPositions.{moved_on_way}
use Rattle.prefix_view.proofs.view.place_at.Goals as goal

pub returns-then-not-extends_place : goal.returns-then-not-extends_place
returns-then-not-extends_place g c = λ f.
    let on = c.extends_place.ensures.1 f in
    let off = c.if-not-extends_place.true in
    cc (on, off)

pub node_towards-requires-clause-extends : goal.node_towards-requires-clause-extends
node_towards-requires-clause-extends g c = c.extends_place.ensures.0 c.if-not-extends_place.false

pub returns-in-Some : goal.returns-in-Some
returns-in-Some g c = (
  c.extends_place.ensures.0 c.if-not-extends_place.false,
  c.reposition.ensures ∙ moved_on_way (g.V.TrieView.seen c.args.view) (g.V.TrieView.seen c.in-Some.at) _ _ (c.in-Some.ensures.way),
)
