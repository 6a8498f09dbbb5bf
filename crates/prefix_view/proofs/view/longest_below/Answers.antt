use Rattle.std.proofs.Common.{◌≤◌, ◌+◌, refl, arith, length}
use Rattle.std.specs.Option.{option_map}
use Rattle.prefix_model.proofs.Fronts.{front_itself}
use Rattle.prefix_model.proofs.Nodes.{node_above}
use Rattle.prefix_model.specs.Views.{node}
use Rattle.prefix_view.proofs.KeptPositions.{towards_extends, towards_deeper}
use Rattle.prefix_view.proofs.Longest.{on_way, child_below, child_above, child_so_far, ends_early, ends_at}
use Rattle.prefix_view.proofs.view.longest_below.Goals as goal

pub down-init : goal.down-init
down-init g c = record { below = record { same = refl; below = front_itself (g.V.TrieView.seen c.args.view).place }; above = c.requires.extends; so_far = c.longest_here-best.ensures }

pub overflow_add-depth : goal.overflow_add-depth
overflow_add-depth g c =
    let above = node_above (g.V.TrieView.seen c.down.at).place in
    let within = (g.met.V.TrieView.place_law c.down.at).within in
    let width = g.met.V.P.R.Bits.greatest_width_law in
    omega (arith, above, within, width)

pub child_towards-requires-clause-extends : goal.child_towards-requires-clause-extends
child_towards-requires-clause-extends g c =
    let v = g.V.TrieView.seen c.args.view in
    let u = g.V.TrieView.seen c.down.at in
    let at = g.met.V.TrieView.place_law c.down.at in
    let bits = g.V.P.R.Bits.bits c.args.key in
    towards_extends _ v u at bits c.args.len (on_way v bits c.args.len _ u at (option_map g.V.TrieView.seen c.down.best) c.down.invariant)

pub longest_so_far-best-requires-clause-extends : goal.longest_so_far-best-requires-clause-extends
longest_so_far-best-requires-clause-extends g c =
    let v = g.V.TrieView.seen c.args.view in
    let u = g.V.TrieView.seen c.down.at in
    let l : length (node u) + 5 ≤ c.args.len = omega arith in
    let all = g.met.V.P.R.Bits.length_law c.args.key in
    let width = c.requires.width in
    child_above v (g.V.P.R.Bits.bits c.args.key) c.args.len _ u (g.met.V.TrieView.place_law c.down.at) (option_map g.V.TrieView.seen c.down.best) c.down.invariant
    (g.V.TrieView.seen c.in-Some.child) l (omega (arith, all, width)) (c.in-Some.ensures.1)

pub down-preserved : goal.down-preserved
down-preserved g c =
    let v = g.V.TrieView.seen c.args.view in
    let u = g.V.TrieView.seen c.down.at in
    let bits = g.V.P.R.Bits.bits c.args.key in
    let at = g.met.V.TrieView.place_law c.down.at in
    let best = option_map g.V.TrieView.seen c.down.best in
    let next = g.V.TrieView.seen c.in-Some.child in
    let l : length (node u) + 5 ≤ c.args.len = omega arith in
    let all = g.met.V.P.R.Bits.length_law c.args.key in
    let width = c.requires.width in
    let within : c.args.len ≤ length bits = omega (arith, all, width) in
    let below = child_below v bits c.args.len _ u at best c.down.invariant next l within (c.in-Some.ensures.1) in
    record {
      below = below;
      above = child_above v bits c.args.len _ u at best c.down.invariant next l within (c.in-Some.ensures.1);
      so_far = c.longest_so_far-best.ensures v below (child_so_far v bits c.args.len _ u at best c.down.invariant next l within (c.in-Some.ensures.1));
    }

pub down-smaller : goal.down-smaller
down-smaller g c =
    let v = g.V.TrieView.seen c.args.view in
    let u = g.V.TrieView.seen c.down.at in
    let bits = g.V.P.R.Bits.bits c.args.key in
    let at = g.met.V.TrieView.place_law c.down.at in
    let l : length (node u) + 5 ≤ c.args.len = omega arith in
    let all = g.met.V.P.R.Bits.length_law c.args.key in
    let width = c.requires.width in
    towards_deeper _ v u at bits c.args.len (on_way v bits c.args.len _ u at (option_map g.V.TrieView.seen c.down.best) c.down.invariant) (g.V.TrieView.seen c.in-Some.child) l (omega (arith, all, width)) (c.in-Some.ensures.1)

pub returns-in-None : goal.returns-in-None
returns-in-None g c =
    let u = g.V.TrieView.seen c.down.at in
    let l : length (node u) + 5 ≤ c.args.len = omega arith in
    let all = g.met.V.P.R.Bits.length_law c.args.key in
    let width = c.requires.width in
    ends_early (g.V.TrieView.seen c.args.view) (g.V.P.R.Bits.bits c.args.key) c.args.len _ u (g.met.V.TrieView.place_law c.down.at) (option_map g.V.TrieView.seen c.down.best) c.down.invariant
    l (omega (arith, all, width)) (c.in-None.ensures)

pub returns : goal.returns
returns g c =
    ends_at (g.V.TrieView.seen c.args.view) (g.V.P.R.Bits.bits c.args.key) c.args.len _ (g.V.TrieView.seen c.down.at) (g.met.V.TrieView.place_law c.down.at) (option_map g.V.TrieView.seen c.down.best) c.down.invariant (omega arith)
