use Rattle.std.proofs.Common.{◌≡◌, ◌+◌, ◌<◌, take, drop, refl, arith, count_ones}
use Rattle.prefix_blocks.specs.Sizes.{cells_needed}
use Rattle.prefix_model.specs.Keys.{number}
use Rattle.prefix_table.specs.NodeLists.{items_of}
use Rattle.prefix_model.proofs.KeyPlaces.{part-lt}
use Rattle.prefix_model.proofs.Bitmaps.SlotLaws.{bit_clear}
use Rattle.prefix_table.proofs.TrieWrites.{ones_below}
use Rattle.prefix_table.proofs.TrieInserts.{same_alike, same_way, way_node, way_clear, cells_of_none, entered_below, refused_below}
use Rattle.prefix_table.proofs.trie.insert_below.Goals as goal

pub reserve_way-requires-clause-full : goal.reserve_way-requires-clause-full
reserve_way-requires-clause-full g c = λ n e.
    let bits = g.R.Bits.bits c.args.key in
    let whole = g.met.R.Bits.length_law c.args.key in
    let t = c.args.trie.now in
    let d = c.args.end.depth in
    let slot = number (drop d (take (d + 5) bits)) in
    let small : slot < 32 = part-lt bits d (d + 5) 5 (omega arith) in
    let none = way_clear t c.requires.trie bits c.args.len c.args.end.at d slot (omega (arith, whole)) c.requires.way c.requires.down refl n e in
    let node = c.requires.trie.each _ n (way_node t c.requires.trie bits c.args.len c.args.end.at d c.requires.way n e) in
    ones_below n.child_bits slot 32 (bit_clear n.child_bits (items_of t.nodes.lists n.child_bits n.children) slot node.children none) node.child_within small (omega arith)

pub make_way-made-requires-clause-trie : goal.make_way-made-requires-clause-trie
make_way-made-requires-clause-trie g c = (same_alike c.args.trie.now c.reserve_way.new.trie c.in-Ok.ensures.same).trie c.requires.trie

pub make_way-made-requires-clause-way : goal.make_way-made-requires-clause-way
make_way-made-requires-clause-way g c = same_way c.args.trie.now c.reserve_way.new.trie c.in-Ok.ensures.same (g.R.Bits.bits c.args.key) c.args.len c.args.end.at c.args.end.depth c.requires.way

pub returns-in-Ok : goal.returns-in-Ok
returns-in-Ok g c =
    let bits = g.R.Bits.bits c.args.key in
    let whole = g.met.R.Bits.length_law c.args.key in
    entered_below c.args.trie.now c.reserve_way.new.trie c.make_way-made.new.trie c.add_value.new.trie c.requires.trie c.in-Ok.ensures.same bits c.args.len c.args.end.at c.args.end.depth c.make_way-made.result.at c.make_way-made.result.depth c.slot_of.result
    (omega (arith, whole)) c.requires.way c.requires.down c.make_way-made.ensures.made c.make_way-made.ensures.short c.slot_of.ensures.value c.args.value c.add_value.ensures

pub returns-in-Err : goal.returns-in-Err
returns-in-Err g c =
    let bits = g.R.Bits.bits c.args.key in
    let whole = g.met.R.Bits.length_law c.args.key in
    refused_below c.args.trie.now c.reserve_way.new.trie c.requires.trie c.in-Err.ensures.same bits c.args.len c.args.end.at c.args.end.depth (omega (arith, whole)) c.requires.way c.requires.down c.args.value

pub add_value-requires-clause-room : goal.add_value-requires-clause-room
add_value-requires-clause-room g c = λ n e.
    let none = c.make_way-made.ensures.fresh c.requires.down n e in
    let one : cells_needed (count_ones n.data_bits) ≡ 1 = cells_of_none n.data_bits none in
    let same : c.make_way-made.new.trie.values.room ≡ c.reserve_way.new.trie.values.room = (λ j. (c.make_way-made.ensures.made.values j).room) in
    let room = c.in-Ok.ensures.values in
    omega (arith, one, same, room)
