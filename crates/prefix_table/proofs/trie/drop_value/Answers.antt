use Rattle.std.proofs.Common.{◌+◌, ◌-◌, ◌*◌, ◌%◌, ◌^◌, ap, is_some, ◌∙◌, ◌++◌, arith, refl}
use Rattle.std.proofs.lemmas.Nat.Bits.{shr_and_one}
use Rattle.prefix_model.specs.Keys.{low_bits}
use Rattle.prefix_model.proofs.KeyNumbers.{length-low_bits}
use Rattle.prefix_model.proofs.Bitmaps.SlotLaws.{level_within}
use Rattle.prefix_table.proofs.TrieWays.{number_tells}
use Rattle.prefix_table.proofs.TrieInserts.{nothing_held}
use Rattle.prefix_table.proofs.TrieClears.{dropped_some, dropped_none, level_slot, taken_count}
use Rattle.prefix_table.proofs.trie.drop_value.Goals as goal

pub overflow_add-slot : goal.overflow_add-slot
overflow_add-slot g c =
    let l = level_within c.args.level c.args.path c.args.path c.requires.level refl c.requires.path in
    omega (arith, l)

pub node_of-requires-clause-named : goal.node_of-requires-clause-named
node_of-requires-clause-named g c = ap is_some (number_tells c.args.trie.now c.requires.trie c.requires.position.0 c.args.at c.requires.position.1).1.named

pub node_of-requires-clause-within : goal.node_of-requires-clause-within
node_of-requires-clause-within g c = (number_tells c.args.trie.now c.requires.trie c.requires.position.0 c.args.at c.requires.position.1).1.limit

pub take_value-value-requires-clause-slot : goal.take_value-value-requires-clause-slot
take_value-value-requires-clause-slot g c = level_within c.args.level c.args.path c.args.path c.requires.level refl c.requires.path

pub overflow_sub-len : goal.overflow_sub-len
overflow_sub-len g c =
    let level = c.requires.level in
    let size = length-low_bits c.args.level c.args.path in
    let taken = c.take_value-value.ensures.taken c.requires.position.0 (low_bits c.args.level c.args.path) c.requires.position.1 (omega (arith, size, level)) (level_slot c.args.level c.args.path level c.requires.path) in
    let count = taken_count c.args.trie.now c.take_value-value.new.trie c.requires.trie _ c.take_value-value.result c.args.len.now taken c.requires.len in
    omega (arith, count)

pub returns-then-node_of-slot-eq1 : goal.returns-then-node_of-slot-eq1
returns-then-node_of-slot-eq1 g c =
    let level = c.requires.level in
    let size = length-low_bits c.args.level c.args.path in
    let s = low_bits c.args.level c.args.path in
    record {
      dropped = λ p named. dropped_some c.args.trie.now c.take_value-value.new.trie p (p ++ s) c.take_value-value.result (c.take_value-value.ensures.taken p s named (omega (arith, size, level)) (level_slot c.args.level c.args.path level c.requires.path)) (λ q r whole. c.take_value-value.ensures.numbers p q r named whole);
      fewer = (let count = taken_count c.args.trie.now c.take_value-value.new.trie c.requires.trie _ c.take_value-value.result c.args.len.now (c.take_value-value.ensures.taken c.requires.position.0 s c.requires.position.1 (omega (arith, size, level)) (level_slot c.args.level c.args.path level c.requires.path)) c.requires.len in omega (arith, count));
      len = (let count = taken_count c.args.trie.now c.take_value-value.new.trie c.requires.trie _ c.take_value-value.result c.args.len.now (c.take_value-value.ensures.taken c.requires.position.0 s c.requires.position.1 (omega (arith, size, level)) (level_slot c.args.level c.args.path level c.requires.path)) c.requires.len in omega (arith, count));
    }

pub returns-else-node_of-slot-eq1 : goal.returns-else-node_of-slot-eq1
returns-else-node_of-slot-eq1 g c =
    let level = c.requires.level in
    let size = length-low_bits c.args.level c.args.path in
    let n = c.node_of.result.now in
    let slot = 1 * 2 ^ c.args.level % 2 ^ 32 - 1 + c.args.path in
    record {
      dropped = λ p named. dropped_none c.args.trie.now c.requires.trie p (p ++ low_bits c.args.level c.args.path)
          (nothing_held c.args.trie.now c.requires.trie p (low_bits c.args.level c.args.path) c.args.at slot n named c.node_of.ensures (omega (arith, size, level)) (level_slot c.args.level c.args.path level c.requires.path) (λ one. c.if-node_of-slot-eq1.false (shr_and_one n.data_bits slot ∙ one)));
      len = c.requires.len;
      fewer = omega arith;
    }

pub overflow_shr-node_of : goal.overflow_shr-node_of
overflow_shr-node_of g c =
    let l = level_within c.args.level c.args.path c.args.path c.requires.level refl c.requires.path in
    omega (arith, l)
