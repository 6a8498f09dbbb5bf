use Rattle.std.proofs.Common.{◌+◌, ◌-◌, ◌*◌, ◌%◌, ◌^◌, ◌++◌, ap, is_some, false, true, subst, sym, ◌∙◌, arith, refl}
use Rattle.std.proofs.lemmas.Nat.Bits.{shr_and_one}
use Rattle.prefix_model.specs.Keys.{low_bits}
use Rattle.prefix_model.proofs.KeyNumbers.{length-low_bits}
use Rattle.prefix_model.proofs.Bitmaps.SlotLaws.{level_within}
use Rattle.prefix_table.proofs.TrieWays.{number_tells, number_apart, kept_length}
use Rattle.prefix_table.proofs.TrieReads.{same_node, held_here}
use Rattle.prefix_table.proofs.TrieViews.{get_entry}
use Rattle.prefix_table.specs.Tries.{value_of}
use Rattle.prefix_table.specs.Retains.{IsNamed}
use Rattle.prefix_table.proofs.TrieInserts.{nothing_held}
use Rattle.prefix_table.proofs.TrieClears.{level_slot, depth_of}
use Rattle.prefix_table.proofs.Sifts.{own_none, own_stays, own_goes, asks}
use Rattle.prefix_table.proofs.retain.ask_value.Goals as goal

pub node_of-node-requires-clause-named : goal.node_of-node-requires-clause-named
node_of-node-requires-clause-named g c = ap is_some (number_tells c.args.trie.now c.requires.trie c.requires.named.0 c.args.at c.requires.named.1).1.named

pub node_of-node-requires-clause-within : goal.node_of-node-requires-clause-within
node_of-node-requires-clause-within g c = (number_tells c.args.trie.now c.requires.trie c.requires.named.0 c.args.at c.requires.named.1).1.limit

pub overflow_shr-node : goal.overflow_shr-node
overflow_shr-node g c =
    let l = level_within c.args.level c.args.path c.args.path c.requires.level refl c.requires.path in
    omega (arith, l)

pub returns-then-node-slot-eq0-clause-asked : goal.returns-then-node-slot-eq0-clause-asked
returns-then-node-slot-eq0-clause-asked g c = λ p named.
    let level = c.requires.level in
    let size = length-low_bits c.args.level c.args.path in
    let n = c.node_of-node.result.now in
    let slot = 1 * 2 ^ c.args.level % 2 ^ 32 - 1 + c.args.path in
    own_none _ _ c.args.trie.now c.requires.trie p (p ++ low_bits c.args.level c.args.path)
    (nothing_held c.args.trie.now c.requires.trie p (low_bits c.args.level c.args.path) c.args.at slot n named c.node_of-node.ensures (omega (arith, size, level)) (level_slot c.args.level c.args.path level c.requires.path)
    (λ one. let z = sym c.if-node-slot-eq0.true ∙ shr_and_one n.data_bits slot ∙ one in cc))

pub overflow_add-depth : goal.overflow_add-depth
overflow_add-depth g c =
    let deep = (depth_of c.args.trie.now c.requires.trie c.requires.named.0 c.args.at c.requires.named.1).1 in
    let same = c.requires.named.2.depth_is in
    let level = c.requires.level in
    omega (arith, deep, same, level)

pub item_of-requires-clause-slot : goal.item_of-requires-clause-slot
item_of-requires-clause-slot g c =
    let l = level_within c.args.level c.args.path c.args.path c.requires.level refl c.requires.path in
    omega (arith, l)

pub item_of-requires-clause-count : goal.item_of-requires-clause-count
item_of-requires-clause-count g c =
    let p = c.requires.named.0 in
    let n = c.node_of-node.result.now in
    (c.requires.trie.each p n (same_node c.args.trie.now c.requires.trie p c.args.at n c.requires.named.1 c.node_of-node.ensures)).values

pub returns-then-not-keep-clause-asked : goal.returns-then-not-keep-clause-asked
returns-then-not-keep-clause-asked g c = λ p named.
    let tr = c.args.trie.now in
    let level = c.requires.level in
    let s = low_bits c.args.level c.args.path in
    let size = length-low_bits c.args.level c.args.path in
    let n = c.node_of-node.result.now in
    let here = same_node tr c.requires.trie p c.args.at n named c.node_of-node.ensures in
    let some = held_here tr p s n (kept_length tr p n here) (omega (arith, size, level)) here ∙ ap (value_of tr n) (level_slot c.args.level c.args.path level c.requires.path) ∙ c.item_of.ensures in
    let fits = c.requires.width (p ++ s) (ap is_some (get_entry tr c.requires.trie (p ++ s) ∙ some)) in
    let name = subst (λ q. IsNamed g.R.Bits.bits g.R.Bits.WIDTH c.args.key q c.args.depth s) (number_apart tr c.requires.trie c.requires.named.0 p c.args.at c.requires.named.1 named) c.requires.named.2 in
    let asked = asks g.R.Bits.bits g.R.Bits.WIDTH _ _ _ c.args.key p s c.args.depth c.args.level c.item_of.result c.keep.result false name size fits c.if-not-keep.true c.keep.ensures in
    own_goes _ _ _ tr c.drop_value.new.trie p (p ++ s) c.item_of.result.now some asked (c.drop_value.ensures.dropped p named)

pub returns-else-not-keep-clause-asked : goal.returns-else-not-keep-clause-asked
returns-else-not-keep-clause-asked g c = λ p named.
    let tr = c.args.trie.now in
    let level = c.requires.level in
    let s = low_bits c.args.level c.args.path in
    let size = length-low_bits c.args.level c.args.path in
    let n = c.node_of-node.result.now in
    let here = same_node tr c.requires.trie p c.args.at n named c.node_of-node.ensures in
    let some = held_here tr p s n (kept_length tr p n here) (omega (arith, size, level)) here ∙ ap (value_of tr n) (level_slot c.args.level c.args.path level c.requires.path) ∙ c.item_of.ensures in
    let fits = c.requires.width (p ++ s) (ap is_some (get_entry tr c.requires.trie (p ++ s) ∙ some)) in
    let name = subst (λ q. IsNamed g.R.Bits.bits g.R.Bits.WIDTH c.args.key q c.args.depth s) (number_apart tr c.requires.trie c.requires.named.0 p c.args.at c.requires.named.1 named) c.requires.named.2 in
    let asked = asks g.R.Bits.bits g.R.Bits.WIDTH _ _ _ c.args.key p s c.args.depth c.args.level c.item_of.result c.keep.result true name size fits c.if-not-keep.false c.keep.ensures in
    own_stays _ _ _ tr c.requires.trie p (p ++ s) c.item_of.result.now some asked
