use Rattle.std.proofs.Common.{◌+◌, ◌<◌, ◌≤◌, length, take, drop, arith, subst}
use Rattle.prefix_model.specs.Keys.{KeyBits, number}
use Rattle.prefix_table.specs.NodeLists.{items_of}
use Rattle.prefix_table.specs.Writes.{IsAdded}
use Rattle.prefix_model.proofs.KeyPlaces.{part-lt}
use Rattle.prefix_model.proofs.Bitmaps.SlotLaws.{bit_clear}
use Rattle.prefix_table.proofs.TrieWays.{number_tells}
use Rattle.prefix_table.proofs.TrieInserts.{way_node, way_clear, next_position, way_longer, leaf_bits, cells_of_leaf}
use Rattle.prefix_table.proofs.trie.make_way.Goals as goal

pub add_child-at-requires-clause-slot : goal.add_child-at-requires-clause-slot
add_child-at-requires-clause-slot g c =
    let small : number (drop c.loop-depth.depth (take (c.loop-depth.depth + 5) (g.R.Bits.bits c.args.key))) < 32 = part-lt (g.R.Bits.bits c.args.key) c.loop-depth.depth (c.loop-depth.depth + 5) 5 (omega arith) in
    rw c.bits_between.ensures small

pub add_child-at-requires-clause-clear : goal.add_child-at-requires-clause-clear
add_child-at-requires-clause-clear g c = λ n e.
    let bits = g.R.Bits.bits c.args.key in
    let whole = g.met.R.Bits.length_law c.args.key in
    let t = c.loop-depth.trie in
    let made = c.loop-depth.invariant.made in
    let none = way_clear t made.trie bits c.args.len c.loop-depth.at c.loop-depth.depth c.bits_between.result (omega (arith, whole)) made.way (omega arith) c.bits_between.ensures n e in
    bit_clear n.child_bits (items_of t.nodes.lists n.child_bits n.children) c.bits_between.result (made.trie.each _ n (way_node t made.trie bits c.args.len c.loop-depth.at c.loop-depth.depth made.way n e)).children none

pub loop-depth-preserved : goal.loop-depth-preserved
loop-depth-preserved g c =
    let bits = g.R.Bits.bits c.args.key in
    let whole = g.met.R.Bits.length_law c.args.key in
    let t = c.loop-depth.trie in
    let t' = c.add_child-at.new.trie in
    let made = c.loop-depth.invariant.made in
    let d = c.loop-depth.depth in
    let down : d + 5 ≤ c.args.len = omega arith in
    let within : c.args.len ≤ length bits = omega (arith, whole) in
    let added = subst (λ (r : KeyBits). IsAdded t t' r c.add_child-at.result) (next_position bits d c.bits_between.result (omega (arith, down, within)) c.bits_between.ensures) (c.add_child-at.ensures.added (take d bits) made.way.here) in
    let old = number_tells t made.trie (take d bits) c.loop-depth.at made.way.here in
    let room = c.loop-depth.invariant.room down old.0 old.1.named in
    let used = c.add_child-at.ensures.room old.0 old.1.named in
    record {
      made = way_longer c.args.trie.now t t' made.trie bits c.args.len c.loop-depth.at d c.add_child-at.result within down made added;
      room = λ more n e. (let one = cells_of_leaf n (leaf_bits t' (take (d + 5) bits) t c.add_child-at.result added n e).0 in omega (arith, one, room, used));
      fresh = λ more n e. (leaf_bits t' (take (d + 5) bits) t c.add_child-at.result added n e).1;
      down = (let before = c.loop-depth.invariant.down in omega (arith, before));
    }
