use Rattle.std.proofs.Common.{◌≤◌, ◌+◌, refl, arith, length}
use Rattle.prefix_model.specs.Views.{node}
use Rattle.prefix_model.proofs.Nodes.{node_above}
use Rattle.prefix_view.proofs.KeptPositions.{towards_child, towards_extends, towards_none, towards_deeper, leads}
use Rattle.prefix_view.proofs.view.node_towards.Goals as goal

pub down-init : goal.down-init
down-init g c = record { entries = refl; kept = refl; above = c.requires.extends }

pub overflow_add-depth : goal.overflow_add-depth
overflow_add-depth g c =
    let above = node_above (g.V.TrieView.seen c.down.at).place in
    let within = (g.met.V.TrieView.place_law c.down.at).within in
    let width = g.met.V.P.R.Bits.greatest_width_law in
    omega (arith, above, within, width)

pub child_towards-requires-clause-extends : goal.child_towards-requires-clause-extends
child_towards-requires-clause-extends g c =
    towards_extends _ (g.V.TrieView.seen c.args.view) (g.V.TrieView.seen c.down.at) (g.met.V.TrieView.place_law c.down.at) (g.V.P.R.Bits.bits c.args.key) c.args.len c.down.invariant

pub down-smaller : goal.down-smaller
down-smaller g c =
    let l : length (node (g.V.TrieView.seen c.down.at)) + 5 ≤ c.args.len = omega arith in
    let all = g.met.V.P.R.Bits.length_law c.args.key in
    let width = c.requires.width in
    towards_deeper _ (g.V.TrieView.seen c.args.view) (g.V.TrieView.seen c.down.at) (g.met.V.TrieView.place_law c.down.at) (g.V.P.R.Bits.bits c.args.key) c.args.len c.down.invariant
    (g.V.TrieView.seen c.in-Some.child) l (omega (arith, all, width)) (c.in-Some.ensures.1)

pub down-preserved : goal.down-preserved
down-preserved g c =
    let l : length (node (g.V.TrieView.seen c.down.at)) + 5 ≤ c.args.len = omega arith in
    towards_child _ (g.V.TrieView.seen c.args.view) (g.V.TrieView.seen c.down.at) (g.met.V.TrieView.place_law c.down.at) (g.V.P.R.Bits.bits c.args.key) c.args.len c.down.invariant
    (g.V.TrieView.seen c.in-Some.child) l (c.in-Some.ensures.1)

pub returns-in-None : goal.returns-in-None
returns-in-None g c =
    let l : length (node (g.V.TrieView.seen c.down.at)) + 5 ≤ c.args.len = omega arith in
    let all = g.met.V.P.R.Bits.length_law c.args.key in
    let width = c.requires.width in
    towards_none _ (g.V.TrieView.seen c.args.view) (g.V.TrieView.seen c.down.at) (g.met.V.TrieView.place_law c.down.at) (g.V.P.R.Bits.bits c.args.key) c.args.len c.down.invariant
    l (omega (arith, all, width)) (c.in-None.ensures)

pub returns : goal.returns
returns g c =
    leads _ (g.V.TrieView.seen c.args.view) (g.V.TrieView.seen c.down.at) (g.met.V.TrieView.place_law c.down.at) (g.V.P.R.Bits.bits c.args.key) c.args.len c.down.invariant (omega arith)
