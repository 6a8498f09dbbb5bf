use Rattle.std.proofs.Common.{◌≡◌, ◌<◌, ◌≤◌, List, length, sym, ap, ◌∙◌, subst, arith}
use lib.Count.{ones}
use Rattle.prefix_model.specs.Masks.{set_bits}
use Rattle.prefix_layout.specs.Writing.{filled_bits}
use Rattle.prefix_layout.specs.declared.write.Placed.{Placed}
use Rattle.prefix_layout.proofs.Settling.{settle_from, settle_at, settle_last, nodes_before}
use Rattle.prefix_layout.proofs.write.settled_nodes.Goals as goal

pub loop-i-init : goal.loop-i-init
loop-i-init g c =
    let view = c.args.table.now in
    let ns = c.in_ok-nodes.nodes.items in
    let size : c.len-i.result ≡ length ns = omega (arith, c.len-i.ensures, c.in_ok-nodes.nodes.ok.0) in
    let end : c.len-end.result ≡ length ns = omega (arith, c.len-end.ensures, c.in_ok-nodes.nodes.ok.0) in
    record { holds = c.in_ok-nodes.ensures.holds; settling = λ holds. settle_from view holds ns c.len-i.result c.len-end.result size end c.in_ok-nodes.ensures.nodes }

pub index-node-requires : goal.index-node-requires
index-node-requires g c = omega (arith, (c.loop-i.invariant.settling c.loop-i.invariant.holds).within, c.loop-i.nodes.ok.0)

pub index_mut-requires : goal.index_mut-requires
index_mut-requires g c = omega (arith, (c.loop-i.invariant.settling c.loop-i.invariant.holds).within, c.loop-i.nodes.ok.0)

pub overflow_sub-first : goal.overflow_sub-first
overflow_sub-first g c =
    let l = c.loop-i in
    (settle_at c.args.table.now l.invariant.holds l.nodes.items l.i l.end c.index-node.result.now c.loop-i-test.true (l.invariant.settling l.invariant.holds) c.index-node.ensures).few

pub offset_bounds-deref-first : goal.offset_bounds-deref-first
offset_bounds-deref-first g c =
    let l = c.loop-i in
    let step = settle_at c.args.table.now l.invariant.holds l.nodes.items l.i l.end c.index-node.result.now c.loop-i-test.true (l.invariant.settling l.invariant.holds) c.index-node.ensures in
    omega (arith, step.end_within, c.loop-i.nodes.small, c.loop-i.nodes.ok.0)

pub slice_bounds-filled_children-end : goal.slice_bounds-filled_children-end
slice_bounds-filled_children-end g c =
    let l = c.loop-i in
    let step = settle_at c.args.table.now l.invariant.holds l.nodes.items l.i l.end c.index-node.result.now c.loop-i-test.true (l.invariant.settling l.invariant.holds) c.index-node.ensures in
    let same = ap length c.deref.ensures.value in
    let within : l.end ≤ length c.deref.result.now = omega (arith, step.end_within, same) in
    within

pub filled_children-child_bits-requires-clause-each : goal.filled_children-child_bits-requires-clause-each
filled_children-child_bits-requires-clause-each g c =
    let l = c.loop-i in
    let step = settle_at c.args.table.now l.invariant.holds l.nodes.items l.i l.end c.index-node.result.now c.loop-i-test.true (l.invariant.settling l.invariant.holds) c.index-node.ensures in
    ap (λ (ns : List Placed). length (nodes_before c.args.table.now l.invariant.holds ns l.end (ones c.index-node.result.now.child_bits))) c.deref.ensures.value ∙ step.bits_count

pub filled_children-child_bits-requires-clause-fits : goal.filled_children-child_bits-requires-clause-fits
filled_children-child_bits-requires-clause-fits g c =
    let l = c.loop-i in
    let step = settle_at c.args.table.now l.invariant.holds l.nodes.items l.i l.end c.index-node.result.now c.loop-i-test.true (l.invariant.settling l.invariant.holds) c.index-node.ensures in
    let same = ap (λ (ns : List Placed). filled_bits (set_bits c.index-node.result.now.child_bits) (nodes_before c.args.table.now l.invariant.holds ns l.end (ones c.index-node.result.now.child_bits))) c.deref.ensures.value in
    let all = same ∙ step.filled in
    subst (λ n. n < 4294967296) (sym all) step.small

pub loop-i-preserved : goal.loop-i-preserved
loop-i-preserved g c =
    let l = c.loop-i in
    let view = c.args.table.now in
    let n = c.index-node.result.now in
    record {
      holds = l.invariant.holds;
      settling = λ holds.
          let step = settle_at view holds l.nodes.items l.i l.end n c.loop-i-test.true (l.invariant.settling holds) c.index-node.ensures in
          let filled = c.filled_children-child_bits.ensures ∙ ap (λ (ns : List Placed). filled_bits (set_bits n.child_bits) (nodes_before view holds ns l.end (ones n.child_bits))) c.deref.ensures.value ∙ step.filled in
          step.next _ (λ j. record { at = n.at; data_bits = n.data_bits; child_bits = filled j });
    }

pub returns-clause-nodes : goal.returns-clause-nodes
returns-clause-nodes g c =
    let l = c.loop-i in
    settle_last c.args.table.now l.invariant.holds l.nodes.items l.i l.end (omega (arith, c.loop-i-test.false)) (l.invariant.settling l.invariant.holds)
