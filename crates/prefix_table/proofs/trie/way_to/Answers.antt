use Rattle.std.proofs.Common.{◌+◌, ◌<◌, ◌==◌, take, drop, refl, ap, sym, ◌∙◌, arith, is_some, Some, None, cond}
use Rattle.std.specs.Int.{bit_at}
use Rattle.prefix_model.specs.Keys.{number}
use Rattle.prefix_table.specs.Tries.{child_number}
use Rattle.prefix_model.proofs.KeyPlaces.{part-lt}
use Rattle.prefix_table.proofs.TrieReads.{child_told, no_child_told, way_step, way_number, same_node}
use Rattle.prefix_table.proofs.TrieWays.{number_tells, number_zero}
use Rattle.prefix_table.proofs.trie.way_to.Goals as goal

pub loop-depth-init : goal.loop-depth-init
loop-depth-init g c = (omega arith, refl, number_zero c.args.trie.now)

pub node_of-node-requires-clause-named : goal.node_of-node-requires-clause-named
node_of-node-requires-clause-named g c =
    let tells = number_tells c.args.trie.now c.requires.trie (take c.loop-depth.depth (g.R.Bits.bits c.args.key)) c.loop-depth.at c.loop-depth.invariant.2 in
    ap is_some tells.1.named

pub node_of-node-requires-clause-within : goal.node_of-node-requires-clause-within
node_of-node-requires-clause-within g c =
    (number_tells c.args.trie.now c.requires.trie (take c.loop-depth.depth (g.R.Bits.bits c.args.key)) c.loop-depth.at c.loop-depth.invariant.2).1.limit

pub child_of-requires : goal.child_of-requires
child_of-requires g c =
    let small : number (drop c.loop-depth.depth (take (c.loop-depth.depth + 5) (g.R.Bits.bits c.args.key))) < 32 = part-lt (g.R.Bits.bits c.args.key) c.loop-depth.depth (c.loop-depth.depth + 5) 5 (omega arith) in
    rw c.bits_between.ensures small

pub returns-in-None : goal.returns-in-None
returns-in-None g c =
    let t = c.args.trie.now in
    let bits = g.R.Bits.bits c.args.key in
    let d = c.loop-depth.depth in
    let n = c.node_of-node.result.now in
    let whole = g.met.R.Bits.length_law c.args.key in
    let here = same_node t c.requires.trie (take d bits) c.loop-depth.at n c.loop-depth.invariant.2 c.node_of-node.ensures in
    let slot = number (drop d (take (d + 5) bits)) in
    record {
      from = c.loop-depth.invariant.0;
      at_five = c.loop-depth.invariant.1;
      here = c.loop-depth.invariant.2;
      ends = λ down. way_step t bits d n (omega (arith, whole)) here ∙ no_child_told t n slot (c.in-None.ensures ∙ ap (λ s. cond (bit_at n.child_bits s == 1) (Some (child_number n s)) None) c.bits_between.ensures);
    }

pub loop-depth-preserved : goal.loop-depth-preserved
loop-depth-preserved g c =
    let t = c.args.trie.now in
    let bits = g.R.Bits.bits c.args.key in
    let d = c.loop-depth.depth in
    let n = c.node_of-node.result.now in
    let whole = g.met.R.Bits.length_law c.args.key in
    let here = same_node t c.requires.trie (take d bits) c.loop-depth.at n c.loop-depth.invariant.2 c.node_of-node.ensures in
    let slot = number (drop d (take (d + 5) bits)) in
    let has = child_told t (take d bits) n slot c.in-Some.child (c.requires.trie.each (take d bits) n here) (c.in-Some.ensures ∙ ap (λ s. cond (bit_at n.child_bits s == 1) (Some (child_number n s)) None) c.bits_between.ensures) in
    (omega arith, omega arith, way_number t bits d n has.node (omega (arith, whole)) here has.is_child ∙ ap Some (sym has.number))

pub returns : goal.returns
returns g c = record {
  from = c.loop-depth.invariant.0;
  at_five = c.loop-depth.invariant.1;
  here = c.loop-depth.invariant.2;
  ends = λ down. absurd (omega arith);
}
