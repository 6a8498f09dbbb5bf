use Rattle.std.proofs.Common.{◌+◌, ◌<◌, take, drop, refl, ◌∙◌, arith}
use Rattle.prefix_model.specs.Keys.{KeyBits, number}
use Rattle.prefix_table.specs.NodeLists.{items_of}
use Rattle.prefix_model.proofs.KeyPlaces.{part-lt}
use Rattle.prefix_model.proofs.Bitmaps.SlotLaws.{bit_clear}
use Rattle.prefix_table.proofs.StoreLaws.{ones_within}
use Rattle.prefix_table.proofs.TrieWrites.{ones_below}
use Rattle.prefix_table.proofs.TrieInserts.{same_alike, same_way, way_node, way_clear, way_nothing}
use Rattle.prefix_table.proofs.TrieFills.{node_entered, same_twice, five_down}
use Rattle.prefix_table.proofs.filling.insert_values.Goals as goal

pub reserve_values-requires : goal.reserve_values-requires
reserve_values-requires g c = let few = ones_within 31 c.args.data_bits c.requires.within in let count = c.requires.count in let len = c.len.ensures in omega (arith, few, count, len)

pub fill_node-requires-clause-trie : goal.fill_node-requires-clause-trie
fill_node-requires-clause-trie g c = (same_alike c.args.trie.now c.reserve_values.new.trie c.in_ok-reserve_values.ensures.same).trie c.requires.trie

pub fill_node-requires-clause-position : goal.fill_node-requires-clause-position
fill_node-requires-clause-position g c =
    let p : KeyBits = take c.args.end.depth (g.R.Bits.bits c.args.key) in
    (p, (same_alike c.args.trie.now c.reserve_values.new.trie c.in_ok-reserve_values.ensures.same).numbers p ∙ c.requires.way.here)

pub returns-then-depth-end-clause-entered : goal.returns-then-depth-end-clause-entered
returns-then-depth-end-clause-entered g c =
    let t = c.args.trie.now in
    let t1 = c.reserve_values.new.trie in
    let roomy = c.in_ok-reserve_values.ensures.same in
    let bits = g.R.Bits.bits c.args.key in
    let whole = g.met.R.Bits.length_law c.args.key in
    let width = c.requires.width in
    let end = c.args.end in
    let made = way_nothing t1 bits c.args.depth end.at end.depth ((same_alike t t1 roomy).trie c.requires.trie) (same_way t t1 roomy bits c.args.depth end.at end.depth c.requires.way) in
    node_entered t t1 t1 c.fill_node.new.trie c.requires.trie roomy bits c.args.depth end.at end.depth (omega (arith, whole, width)) c.requires.at_five c.requires.free made (let here = c.if-depth-end.true in omega (arith, here))
    c.args.data_bits c.args.values.now.items c.fill_node.ensures.filled

pub reserve_way-requires-clause-full : goal.reserve_way-requires-clause-full
reserve_way-requires-clause-full g c = λ n e.
    let bits = g.R.Bits.bits c.args.key in
    let whole = g.met.R.Bits.length_law c.args.key in
    let width = c.requires.width in
    let t = c.args.trie.now in
    let d = c.args.end.depth in
    let slot = number (drop d (take (d + 5) bits)) in
    let way = c.requires.way in
    let down = five_down c.args.depth d c.requires.at_five way.at_five way.from c.if-depth-end.false in
    let small : slot < 32 = part-lt bits d (d + 5) 5 (omega arith) in
    let none = way_clear t c.requires.trie bits c.args.depth c.args.end.at d slot (omega (arith, whole, width)) way down refl n e in
    let node = c.requires.trie.each _ n (way_node t c.requires.trie bits c.args.depth c.args.end.at d way n e) in
    ones_below n.child_bits slot 32 (bit_clear n.child_bits (items_of t.nodes.lists n.child_bits n.children) slot node.children none) node.child_within small (omega arith)

pub make_way-made-requires-clause-trie : goal.make_way-made-requires-clause-trie
make_way-made-requires-clause-trie g c =
    let roomy = same_twice c.args.trie.now c.reserve_way.new.trie c.reserve_values-2.new.trie c.in_ok-reserve_way.ensures.same c.in_ok-reserve_values-2.ensures.same in
    (same_alike c.args.trie.now c.reserve_values-2.new.trie roomy).trie c.requires.trie

pub make_way-made-requires-clause-way : goal.make_way-made-requires-clause-way
make_way-made-requires-clause-way g c =
    let roomy = same_twice c.args.trie.now c.reserve_way.new.trie c.reserve_values-2.new.trie c.in_ok-reserve_way.ensures.same c.in_ok-reserve_values-2.ensures.same in
    same_way c.args.trie.now c.reserve_values-2.new.trie roomy (g.R.Bits.bits c.args.key) c.args.depth c.args.end.at c.args.end.depth c.requires.way

pub returns-clause-entered : goal.returns-clause-entered
returns-clause-entered g c =
    let t = c.args.trie.now in
    let t1 = c.reserve_values-2.new.trie in
    let roomy = same_twice t c.reserve_way.new.trie t1 c.in_ok-reserve_way.ensures.same c.in_ok-reserve_values-2.ensures.same in
    let bits = g.R.Bits.bits c.args.key in
    let whole = g.met.R.Bits.length_law c.args.key in
    let width = c.requires.width in
    let made = c.make_way-made.result in
    node_entered t t1 c.make_way-made.new.trie c.fill_node-2.new.trie c.requires.trie roomy bits c.args.depth made.at made.depth (omega (arith, whole, width)) c.requires.at_five c.requires.free c.make_way-made.ensures.made c.make_way-made.ensures.short
    c.args.data_bits c.args.values.now.items c.fill_node-2.ensures.filled
