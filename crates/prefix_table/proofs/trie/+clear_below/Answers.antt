use Rattle.std.proofs.Common.{rules, ◌≡◌, ◌+◌, ◌-◌, ◌*◌, ◌/◌, ◌^◌, ◌<◌, ◌≤◌, ◌++◌, Some, length, ap, sym, ◌∙◌, arith, is_some, subst, refl, ℕ, length-append}
use Rattle.prefix_model.specs.Keys.{KeyBits, low_bits}
use Rattle.prefix_model.proofs.KeyNumbers.{length-low_bits}
use Rattle.prefix_table.specs.Tries.{number_at}
use Rattle.prefix_table.specs.Writes.{IsCleared}
use Rattle.prefix_table.proofs.TrieReads.{same_node}
use Rattle.prefix_table.proofs.TrieWays.{number_tells}
use Rattle.prefix_table.proofs.TrieClears.{cleared_halves, cleared_child, cleared_absent, cleared_bare, left_key, right_key, child_named_at, child_absent_at, depth_of, still_named, cut_count, twice_power}
use Rattle.prefix_model.proofs.TablePositions.{low_bits_none}
use Rattle.prefix_table.proofs.trie.+clear_below.Goals as goal

pub node_of-requires-clause-named : goal.node_of-requires-clause-named
node_of-requires-clause-named g t c = ap is_some (number_tells c.args.trie.now c.requires.trie c.requires.position.0 c.args.at c.requires.position.1).1.named

pub node_of-requires-clause-within : goal.node_of-requires-clause-within
node_of-requires-clause-within g t c = (number_tells c.args.trie.now c.requires.trie c.requires.position.0 c.args.at c.requires.position.1).1.limit

pub overflow_add-depth : goal.overflow_add-depth
overflow_add-depth g t c =
    let deep = (depth_of c.args.trie.now c.requires.trie c.requires.position.0 c.args.at c.requires.position.1).1 in
    let same = c.requires.position.2 in
    omega (arith, deep, same)

pub clear_below-requires : goal.clear_below-requires
clear_below-requires g t c κs within =
    let tr = c.args.trie.now in
    let p = c.requires.position.0 in
    let five = c.if-level-eq5.true in
    let small : c.args.path < 32 = subst (λ (k : ℕ). c.args.path < 2 ^ k) five c.requires.path in
    let named = child_named_at tr c.requires.trie p c.args.at c.args.path c.in-Some.child c.node_of.result.now c.requires.position.1 c.node_of.ensures small c.in-Some.ensures in
    let depth = depth_of tr c.requires.trie (p ++ low_bits 5 c.args.path) c.in-Some.child named in
    let above = depth_of tr c.requires.trie p c.args.at c.requires.position.1 in
    let size = length-append p (low_bits 5 c.args.path) in
    let bits = length-low_bits 5 c.args.path in
    let same = c.requires.position.2 in
    let position : (x : KeyBits) × (number_at tr x ≡ Some c.in-Some.child) × (length x ≡ c.args.depth + 5) = (p ++ low_bits 5 c.args.path, named, omega (arith, size, bits, same)) in
    let less : 157 - (6 * ((c.args.depth + 5) / 5) + 0) < 157 - (6 * (c.args.depth / 5) + c.args.level) = omega (arith, five, depth.1, above.0, size, bits, same) in
    search rules

pub cut_child-requires-clause-trie : goal.cut_child-requires-clause-trie
cut_child-requires-clause-trie g t c =
    let tr = c.args.trie.now in
    let p = c.requires.position.0 in
    let small : c.args.path < 32 = subst (λ (k : ℕ). c.args.path < 2 ^ k) c.if-level-eq5.true c.requires.path in
    let named = child_named_at tr c.requires.trie p c.args.at c.args.path c.in-Some.child c.node_of.result.now c.requires.position.1 c.node_of.ensures small c.in-Some.ensures in
    (c.clear_below.ensures.cleared (p ++ low_bits 5 c.args.path) named).trie

pub cut_child-requires-clause-position : goal.cut_child-requires-clause-position
cut_child-requires-clause-position g t c =
    let tr = c.args.trie.now in
    let p = c.requires.position.0 in
    let small : c.args.path < 32 = subst (λ (k : ℕ). c.args.path < 2 ^ k) c.if-level-eq5.true c.requires.path in
    let named = child_named_at tr c.requires.trie p c.args.at c.args.path c.in-Some.child c.node_of.result.now c.requires.position.1 c.node_of.ensures small c.in-Some.ensures in
    (p, (c.clear_below.ensures.cleared (p ++ low_bits 5 c.args.path) named).numbers p (low_bits 5 c.args.path) refl ∙ c.requires.position.1)

pub cut_child-requires-clause-child : goal.cut_child-requires-clause-child
cut_child-requires-clause-child g t c = λ n e.
    let tr = c.args.trie.now in
    let p = c.requires.position.0 in
    let key = low_bits 5 c.args.path in
    let small : c.args.path < 32 = subst (λ (k : ℕ). c.args.path < 2 ^ k) c.if-level-eq5.true c.requires.path in
    let named = child_named_at tr c.requires.trie p c.args.at c.args.path c.in-Some.child c.node_of.result.now c.requires.position.1 c.node_of.ensures small c.in-Some.ensures in
    let inner = subst (λ (k : KeyBits). IsCleared tr c.clear_below.new.trie (p ++ key) ((p ++ key) ++ k)) low_bits_none (c.clear_below.ensures.cleared (p ++ key) named) in
    let still = inner.numbers p key refl ∙ c.requires.position.1 in
    cleared_bare tr c.clear_below.new.trie p key n c.args.path c.in-Some.child refl small inner named (same_node c.clear_below.new.trie inner.trie p c.args.at n still e)

pub returns-in-Some-clause-cleared : goal.returns-in-Some-clause-cleared
returns-in-Some-clause-cleared g t c = λ p named_p.
    let tr = c.args.trie.now in
    let key = low_bits 5 c.args.path in
    let five = c.if-level-eq5.true in
    let small : c.args.path < 32 = subst (λ (k : ℕ). c.args.path < 2 ^ k) five c.requires.path in
    let named = child_named_at tr c.requires.trie p c.args.at c.args.path c.in-Some.child c.node_of.result.now named_p c.node_of.ensures small c.in-Some.ensures in
    let inner = subst (λ (k : KeyBits). IsCleared tr c.clear_below.new.trie (p ++ key) ((p ++ key) ++ k)) low_bits_none (c.clear_below.ensures.cleared (p ++ key) named) in
    let still = inner.numbers p key refl ∙ named_p in
    subst (λ (k : ℕ). IsCleared tr c.cut_child.new.trie p (p ++ low_bits k c.args.path)) (sym five)
    (cleared_child tr c.clear_below.new.trie c.cut_child.new.trie p key (length-low_bits 5 c.args.path) inner (c.cut_child.ensures.cut p still) (λ q r whole. c.cut_child.ensures.numbers p q r still whole))

pub returns-in-None-clause-cleared : goal.returns-in-None-clause-cleared
returns-in-None-clause-cleared g t c = λ p named_p.
    let tr = c.args.trie.now in
    let five = c.if-level-eq5.true in
    let small : c.args.path < 32 = subst (λ (k : ℕ). c.args.path < 2 ^ k) five c.requires.path in
    let above = depth_of tr c.requires.trie p c.args.at named_p in
    subst (λ (k : ℕ). IsCleared tr tr p (p ++ low_bits k c.args.path)) (sym five)
    (cleared_absent tr c.requires.trie p (low_bits 5 c.args.path) above.0 (length-low_bits 5 c.args.path)
    (child_absent_at tr c.requires.trie p c.args.at c.args.path c.node_of.result.now named_p c.node_of.ensures small c.in-None.ensures))

pub clear_below-requires-2 : goal.clear_below-requires-2
clear_below-requires-2 g t c κs within =
    let tr = c.args.trie.now in
    let p = c.requires.position.0 in
    let most = c.requires.level in
    let apart = c.if-level-eq5.false in
    let same = c.requires.position.2 in
    let above = depth_of tr c.requires.trie p c.args.at c.requires.position.1 in
    let dropped = c.drop_value.ensures.dropped p c.requires.position.1 in
    let trie = dropped.trie in
    let position : (x : KeyBits) × (number_at c.drop_value.new.trie x ≡ Some c.args.at) × (length x ≡ c.args.depth) = (p, still_named tr c.drop_value.new.trie p c.args.at dropped.numbers c.requires.position.1, same) in
    let less : 157 - (6 * (c.args.depth / 5) + (c.args.level + 1)) < 157 - (6 * (c.args.depth / 5) + c.args.level) = omega (arith, most, apart, same, above.1) in
    let twice : 2 ^ (c.args.level + 1) ≡ 2 * 2 ^ c.args.level = twice_power c.args.level in
    let path = c.requires.path in
    let half : 2 * c.args.path < 2 ^ (c.args.level + 1) = omega (arith, path, twice) in
    let deeper : c.args.level + 1 ≤ 5 = omega (arith, most, apart) in
    search rules

pub clear_below-requires-3 : goal.clear_below-requires-3
clear_below-requires-3 g t c κs within =
    let tr = c.args.trie.now in
    let p = c.requires.position.0 in
    let most = c.requires.level in
    let apart = c.if-level-eq5.false in
    let same = c.requires.position.2 in
    let above = depth_of tr c.requires.trie p c.args.at c.requires.position.1 in
    let dropped = c.drop_value.ensures.dropped p c.requires.position.1 in
    let named1 = still_named tr c.drop_value.new.trie p c.args.at dropped.numbers c.requires.position.1 in
    let left = c.clear_below-2.ensures.cleared p named1 in
    let trie = left.trie in
    let position : (x : KeyBits) × (number_at c.clear_below-2.new.trie x ≡ Some c.args.at) × (length x ≡ c.args.depth) = (p, still_named c.drop_value.new.trie c.clear_below-2.new.trie p c.args.at left.numbers named1, same) in
    let less : 157 - (6 * (c.args.depth / 5) + (c.args.level + 1)) < 157 - (6 * (c.args.depth / 5) + c.args.level) = omega (arith, most, apart, same, above.1) in
    let twice : 2 ^ (c.args.level + 1) ≡ 2 * 2 ^ c.args.level = twice_power c.args.level in
    let path = c.requires.path in
    let half : 2 * c.args.path + 1 < 2 ^ (c.args.level + 1) = omega (arith, path, twice) in
    let deeper : c.args.level + 1 ≤ 5 = omega (arith, most, apart) in
    search rules

pub returns-clause-cleared : goal.returns-clause-cleared
returns-clause-cleared g t c = λ p named.
    let tr = c.args.trie.now in
    let most = c.requires.level in
    let apart = c.if-level-eq5.false in
    let above = depth_of tr c.requires.trie p c.args.at named in
    let s = low_bits c.args.level c.args.path in
    let dropped = c.drop_value.ensures.dropped p named in
    let named1 = still_named tr c.drop_value.new.trie p c.args.at dropped.numbers named in
    let left = c.clear_below-2.ensures.cleared p named1 in
    let named2 = still_named c.drop_value.new.trie c.clear_below-2.new.trie p c.args.at left.numbers named1 in
    let right = c.clear_below-3.ensures.cleared p named2 in
    let size = length-low_bits c.args.level c.args.path in
    cleared_halves tr c.drop_value.new.trie c.clear_below-2.new.trie c.clear_below-3.new.trie p s above.0 (omega (arith, size, most, apart)) dropped
    (subst (λ (k : KeyBits). IsCleared c.drop_value.new.trie c.clear_below-2.new.trie p k) (left_key p c.args.level c.args.path) left)
    (subst (λ (k : KeyBits). IsCleared c.clear_below-2.new.trie c.clear_below-3.new.trie p k) (right_key p c.args.level c.args.path) right)

pub returns-in-Some-clause-len : goal.returns-in-Some-clause-len
returns-in-Some-clause-len g t c =
    let tr = c.args.trie.now in
    let p = c.requires.position.0 in
    let key = low_bits 5 c.args.path in
    let small : c.args.path < 32 = subst (λ (k : ℕ). c.args.path < 2 ^ k) c.if-level-eq5.true c.requires.path in
    let named = child_named_at tr c.requires.trie p c.args.at c.args.path c.in-Some.child c.node_of.result.now c.requires.position.1 c.node_of.ensures small c.in-Some.ensures in
    let inner = c.clear_below.ensures.cleared (p ++ key) named in
    let still = inner.numbers p key refl ∙ c.requires.position.1 in
    c.clear_below.ensures.len ∙ cut_count c.clear_below.new.trie c.cut_child.new.trie inner.trie (p ++ key) (c.cut_child.ensures.cut p still)
