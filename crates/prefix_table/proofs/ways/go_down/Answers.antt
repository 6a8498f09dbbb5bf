use Rattle.std.proofs.Common.{◌+◌, ◌/◌, ◌<◌, ◌≤◌, take, drop, refl, ap, arith, is_some}
use Rattle.prefix_model.specs.Keys.{number}
use Rattle.prefix_model.proofs.KeyPlaces.{part-lt}
use Rattle.prefix_table.proofs.TrieWays.{number_tells}
use Rattle.prefix_table.proofs.TrieRemoves.{child_here, no_child_here}
use Rattle.prefix_table.proofs.WayLaws.{way_last, way_further, way_last_written}
use Rattle.prefix_table.proofs.ways.go_down.Goals as goal

pub node_of-requires-clause-named : goal.node_of-requires-clause-named
node_of-requires-clause-named g c =
    let i = c.loop-depth.invariant in
    ap is_some (number_tells c.args.trie.now c.requires.trie _ c.loop-depth.at (way_last c.args.trie.now (g.R.Bits.bits c.args.key) c.loop-depth.numbers c.loop-depth.depth c.loop-depth.at i.way i.last)).1.named

pub node_of-requires-clause-within : goal.node_of-requires-clause-within
node_of-requires-clause-within g c =
    let i = c.loop-depth.invariant in
    (number_tells c.args.trie.now c.requires.trie _ c.loop-depth.at (way_last c.args.trie.now (g.R.Bits.bits c.args.key) c.loop-depth.numbers c.loop-depth.depth c.loop-depth.at i.way i.last)).1.limit

pub child_of-requires : goal.child_of-requires
child_of-requires g c =
    let small : number (drop c.loop-depth.depth (take (c.loop-depth.depth + 5) (g.R.Bits.bits c.args.key))) < 32 = part-lt (g.R.Bits.bits c.args.key) c.loop-depth.depth (c.loop-depth.depth + 5) 5 (omega arith) in
    rw c.bits_between.ensures small

pub loop-depth-init : goal.loop-depth-init
loop-depth-init g c = record { way = c.requires.way; within = c.requires.within; last = refl }

pub returns-in-None-clause-end : goal.returns-in-None-clause-end
returns-in-None-clause-end g c =
    let t = c.args.trie.now in
    let bits = g.R.Bits.bits c.args.key in
    let d = c.loop-depth.depth in
    let i = c.loop-depth.invariant in
    let whole = g.met.R.Bits.length_law c.args.key in
    let here = way_last t bits c.loop-depth.numbers d c.loop-depth.at i.way i.last in
    record {
      from = i.within;
      at_five = i.way.at_five;
      here = here;
      ends = λ down. no_child_here t c.requires.trie bits d c.loop-depth.at c.bits_between.result c.node_of.result.now (omega (arith, whole)) here c.node_of.ensures c.bits_between.ensures c.in-None.ensures;
    }

pub loop-depth-preserved : goal.loop-depth-preserved
loop-depth-preserved g c =
    let t = c.args.trie.now in
    let bits = g.R.Bits.bits c.args.key in
    let d = c.loop-depth.depth in
    let i = c.loop-depth.invariant in
    let whole = g.met.R.Bits.length_law c.args.key in
    let more : d + 5 ≤ c.args.len = omega arith in
    let here = way_last t bits c.loop-depth.numbers d c.loop-depth.at i.way i.last in
    let child = child_here t c.requires.trie bits d c.loop-depth.at c.bits_between.result c.in-Some.child c.node_of.result.now (omega (arith, whole, more)) here c.node_of.ensures c.bits_between.ensures c.in-Some.ensures in
    let way = way_further t c.requires.trie bits c.loop-depth.numbers d c.in-Some.child ((d + 5) / 5) i.way (omega (arith, whole, more)) child.named refl in
    record { way = way; within = more; last = way_last_written t bits c.loop-depth.numbers d c.in-Some.child ((d + 5) / 5) i.way way refl }

pub returns-clause-end : goal.returns-clause-end
returns-clause-end g c =
    let i = c.loop-depth.invariant in
    record {
      from = i.within;
      at_five = i.way.at_five;
      here = way_last c.args.trie.now (g.R.Bits.bits c.args.key) c.loop-depth.numbers c.loop-depth.depth c.loop-depth.at i.way i.last;
      ends = λ down. absurd (omega arith);
    }
