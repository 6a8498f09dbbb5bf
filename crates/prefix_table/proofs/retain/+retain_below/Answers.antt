use Rattle.std.proofs.Common.{rules, ◌≡◌, ◌+◌, ◌-◌, ◌*◌, ◌/◌, ◌^◌, ◌<◌, ◌≤◌, ◌++◌, Some, length, ap, sym, ◌∙◌, arith, is_some, subst, refl, ℕ, length-append}
use Rattle.prefix_model.specs.Keys.{KeyBits, low_bits}
use Rattle.prefix_model.proofs.KeyNumbers.{length-low_bits}
use Rattle.prefix_table.specs.Tries.{number_at}
use Rattle.prefix_table.specs.Retains.{IsNamed}
use Rattle.prefix_table.proofs.TrieReads.{same_node}
use Rattle.prefix_table.proofs.TrieWays.{number_tells}
use Rattle.prefix_table.proofs.TrieClears.{cleared_absent, left_key, right_key, child_named_at, child_absent_at, depth_of, still_named, cut_count, twice_power}
use Rattle.prefix_table.proofs.Sifts.{sifted_halves, sifted_child_kept, sifted_child_cut, sifted_absent, sifted_whole, sifted_key, width_kept, bare_child, named_child, named_left, named_right}
use Rattle.prefix_table.proofs.retain.+retain_below.Goals as goal

pub node_of-requires-clause-named : goal.node_of-requires-clause-named
node_of-requires-clause-named g t c = ap is_some (number_tells c.args.trie.now c.requires.trie c.requires.named.0 c.args.at c.requires.named.1).1.named

pub node_of-requires-clause-within : goal.node_of-requires-clause-within
node_of-requires-clause-within g t c = (number_tells c.args.trie.now c.requires.trie c.requires.named.0 c.args.at c.requires.named.1).1.limit

pub overflow_add-depth : goal.overflow_add-depth
overflow_add-depth g t c =
    let deep = (depth_of c.args.trie.now c.requires.trie c.requires.named.0 c.args.at c.requires.named.1).1 in
    let same = c.requires.named.2.depth_is in
    omega (arith, deep, same)

pub retain_below-requires : goal.retain_below-requires
retain_below-requires g t c κs within =
    let tr = c.args.trie.now in
    let key = low_bits 5 c.args.path in
    let five = c.if-level-eq5.true in
    let small : c.args.path < 32 = subst (λ (k : ℕ). c.args.path < 2 ^ k) five c.requires.path in
    let p = c.requires.named.0 in
    let named_p = c.requires.named.1 in
    let named = child_named_at tr c.requires.trie p c.args.at c.args.path c.in-Some.child c.node_of.result.now named_p c.node_of.ensures small c.in-Some.ensures in
    let depth = depth_of tr c.requires.trie (p ++ key) c.in-Some.child named in
    let above = depth_of tr c.requires.trie p c.args.at named_p in
    let size = length-append p key in
    let bits = length-low_bits 5 c.args.path in
    let same = c.requires.named.2.depth_is in
    let position : (x : KeyBits) × (number_at tr x ≡ Some c.in-Some.child) × IsNamed g.R.Bits.bits g.R.Bits.WIDTH c.args.key x (c.args.depth + 5) (low_bits 0 0) = (p ++ key, named, named_child g.R.Bits.bits g.R.Bits.WIDTH c.args.key p c.args.depth c.args.level c.args.path five c.requires.named.2) in
    let less : 157 - (6 * ((c.args.depth + 5) / 5) + 0) < 157 - (6 * (c.args.depth / 5) + c.args.level) = omega (arith, five, depth.1, above.0, size, bits, same) in
    search rules

pub node_of-requires-in-Some-clause-named : goal.node_of-requires-in-Some-clause-named
node_of-requires-in-Some-clause-named g t c =
    let tr = c.args.trie.now in
    let key = low_bits 5 c.args.path in
    let five = c.if-level-eq5.true in
    let small : c.args.path < 32 = subst (λ (k : ℕ). c.args.path < 2 ^ k) five c.requires.path in
    let p = c.requires.named.0 in
    let named_p = c.requires.named.1 in
    let named = child_named_at tr c.requires.trie p c.args.at c.args.path c.in-Some.child c.node_of.result.now named_p c.node_of.ensures small c.in-Some.ensures in
    let t1 = c.retain_below.new.trie in
    let inner = sifted_whole _ _ _ tr t1 (p ++ key) (c.retain_below.ensures.sifted (p ++ key) named) in
    let still = inner.numbers p key refl ∙ named_p in
    let named_child = still_named tr t1 (p ++ key) c.in-Some.child inner.numbers named in
    ap is_some (number_tells t1 inner.trie (p ++ key) c.in-Some.child named_child).1.named

pub node_of-requires-in-Some-clause-within : goal.node_of-requires-in-Some-clause-within
node_of-requires-in-Some-clause-within g t c =
    let tr = c.args.trie.now in
    let key = low_bits 5 c.args.path in
    let five = c.if-level-eq5.true in
    let small : c.args.path < 32 = subst (λ (k : ℕ). c.args.path < 2 ^ k) five c.requires.path in
    let p = c.requires.named.0 in
    let named_p = c.requires.named.1 in
    let named = child_named_at tr c.requires.trie p c.args.at c.args.path c.in-Some.child c.node_of.result.now named_p c.node_of.ensures small c.in-Some.ensures in
    let t1 = c.retain_below.new.trie in
    let inner = sifted_whole _ _ _ tr t1 (p ++ key) (c.retain_below.ensures.sifted (p ++ key) named) in
    let still = inner.numbers p key refl ∙ named_p in
    let named_child = still_named tr t1 (p ++ key) c.in-Some.child inner.numbers named in
    (number_tells t1 inner.trie (p ++ key) c.in-Some.child named_child).1.limit

pub cut_child-requires-clause-trie : goal.cut_child-requires-clause-trie
cut_child-requires-clause-trie g t c =
    let tr = c.args.trie.now in
    let key = low_bits 5 c.args.path in
    let five = c.if-level-eq5.true in
    let small : c.args.path < 32 = subst (λ (k : ℕ). c.args.path < 2 ^ k) five c.requires.path in
    let p = c.requires.named.0 in
    let named_p = c.requires.named.1 in
    let named = child_named_at tr c.requires.trie p c.args.at c.args.path c.in-Some.child c.node_of.result.now named_p c.node_of.ensures small c.in-Some.ensures in
    let t1 = c.retain_below.new.trie in
    let inner = sifted_whole _ _ _ tr t1 (p ++ key) (c.retain_below.ensures.sifted (p ++ key) named) in
    inner.trie

pub cut_child-requires-clause-position : goal.cut_child-requires-clause-position
cut_child-requires-clause-position g t c =
    let tr = c.args.trie.now in
    let key = low_bits 5 c.args.path in
    let five = c.if-level-eq5.true in
    let small : c.args.path < 32 = subst (λ (k : ℕ). c.args.path < 2 ^ k) five c.requires.path in
    let p = c.requires.named.0 in
    let named_p = c.requires.named.1 in
    let named = child_named_at tr c.requires.trie p c.args.at c.args.path c.in-Some.child c.node_of.result.now named_p c.node_of.ensures small c.in-Some.ensures in
    let t1 = c.retain_below.new.trie in
    let inner = sifted_whole _ _ _ tr t1 (p ++ key) (c.retain_below.ensures.sifted (p ++ key) named) in
    let still = inner.numbers p key refl ∙ named_p in
    let named_child = still_named tr t1 (p ++ key) c.in-Some.child inner.numbers named in
    (p, still)

pub cut_child-requires-clause-child : goal.cut_child-requires-clause-child
cut_child-requires-clause-child g t c = λ n e.
    let tr = c.args.trie.now in
    let key = low_bits 5 c.args.path in
    let five = c.if-level-eq5.true in
    let small : c.args.path < 32 = subst (λ (k : ℕ). c.args.path < 2 ^ k) five c.requires.path in
    let p = c.requires.named.0 in
    let named_p = c.requires.named.1 in
    let named = child_named_at tr c.requires.trie p c.args.at c.args.path c.in-Some.child c.node_of.result.now named_p c.node_of.ensures small c.in-Some.ensures in
    let t1 = c.retain_below.new.trie in
    let inner = sifted_whole _ _ _ tr t1 (p ++ key) (c.retain_below.ensures.sifted (p ++ key) named) in
    let still = inner.numbers p key refl ∙ named_p in
    let named_child_at = still_named tr t1 (p ++ key) c.in-Some.child inner.numbers named in
    let bare = c.is_empty.ensures.0 c.if-is_empty.true in
    bare_child t1 p n c.node_of-in-Some.result.now c.args.path small (same_node t1 inner.trie p c.args.at n still e)
    (same_node t1 inner.trie (p ++ key) c.in-Some.child c.node_of-in-Some.result.now named_child_at c.node_of-in-Some.ensures) bare.0 bare.1

pub returns-then-is_empty-clause-sifted : goal.returns-then-is_empty-clause-sifted
returns-then-is_empty-clause-sifted g t c = λ p named_p.
    let tr = c.args.trie.now in
    let key = low_bits 5 c.args.path in
    let five = c.if-level-eq5.true in
    let small : c.args.path < 32 = subst (λ (k : ℕ). c.args.path < 2 ^ k) five c.requires.path in
    let named = child_named_at tr c.requires.trie p c.args.at c.args.path c.in-Some.child c.node_of.result.now named_p c.node_of.ensures small c.in-Some.ensures in
    let t1 = c.retain_below.new.trie in
    let inner = sifted_whole _ _ _ tr t1 (p ++ key) (c.retain_below.ensures.sifted (p ++ key) named) in
    let still = inner.numbers p key refl ∙ named_p in
    let named_child = still_named tr t1 (p ++ key) c.in-Some.child inner.numbers named in
    sifted_key _ _ _ tr c.cut_child.new.trie p _ _ (ap (λ (k : ℕ). p ++ low_bits k c.args.path) (sym five))
    (sifted_child_cut _ _ _ tr t1 p key (length-low_bits 5 c.args.path) inner c.cut_child.new.trie (c.cut_child.ensures.cut p still) (λ q r whole. c.cut_child.ensures.numbers p q r still whole))

pub returns-then-is_empty-clause-len : goal.returns-then-is_empty-clause-len
returns-then-is_empty-clause-len g t c =
    let tr = c.args.trie.now in
    let key = low_bits 5 c.args.path in
    let five = c.if-level-eq5.true in
    let small : c.args.path < 32 = subst (λ (k : ℕ). c.args.path < 2 ^ k) five c.requires.path in
    let p = c.requires.named.0 in
    let named_p = c.requires.named.1 in
    let named = child_named_at tr c.requires.trie p c.args.at c.args.path c.in-Some.child c.node_of.result.now named_p c.node_of.ensures small c.in-Some.ensures in
    let t1 = c.retain_below.new.trie in
    let inner = sifted_whole _ _ _ tr t1 (p ++ key) (c.retain_below.ensures.sifted (p ++ key) named) in
    let still = inner.numbers p key refl ∙ named_p in
    let named_child_at = still_named tr t1 (p ++ key) c.in-Some.child inner.numbers named in
    c.retain_below.ensures.len ∙ cut_count t1 c.cut_child.new.trie inner.trie (p ++ key) (c.cut_child.ensures.cut p still)

pub returns-else-is_empty-clause-sifted : goal.returns-else-is_empty-clause-sifted
returns-else-is_empty-clause-sifted g t c = λ p named_p.
    let tr = c.args.trie.now in
    let key = low_bits 5 c.args.path in
    let five = c.if-level-eq5.true in
    let small : c.args.path < 32 = subst (λ (k : ℕ). c.args.path < 2 ^ k) five c.requires.path in
    let named = child_named_at tr c.requires.trie p c.args.at c.args.path c.in-Some.child c.node_of.result.now named_p c.node_of.ensures small c.in-Some.ensures in
    let t1 = c.retain_below.new.trie in
    let inner = sifted_whole _ _ _ tr t1 (p ++ key) (c.retain_below.ensures.sifted (p ++ key) named) in
    let still = inner.numbers p key refl ∙ named_p in
    let named_child = still_named tr t1 (p ++ key) c.in-Some.child inner.numbers named in
    sifted_key _ _ _ tr t1 p _ _ (ap (λ (k : ℕ). p ++ low_bits k c.args.path) (sym five))
    (sifted_child_kept _ _ _ tr t1 p key (length-low_bits 5 c.args.path) inner c.node_of-in-Some.result.now (same_node t1 inner.trie (p ++ key) c.in-Some.child c.node_of-in-Some.result.now named_child c.node_of-in-Some.ensures)
    (λ bare. let yes = c.is_empty.ensures.1 bare in let no = c.if-is_empty.false in cc))

pub returns-in-None-clause-sifted : goal.returns-in-None-clause-sifted
returns-in-None-clause-sifted g t c = λ p named_p.
    let tr = c.args.trie.now in
    let key = low_bits 5 c.args.path in
    let five = c.if-level-eq5.true in
    let small : c.args.path < 32 = subst (λ (k : ℕ). c.args.path < 2 ^ k) five c.requires.path in
    let above = depth_of tr c.requires.trie p c.args.at named_p in
    sifted_key _ _ _ tr tr p _ _ (ap (λ (k : ℕ). p ++ low_bits k c.args.path) (sym five))
    (sifted_absent _ _ tr c.requires.trie p key (cleared_absent tr c.requires.trie p key above.0 (length-low_bits 5 c.args.path)
    (child_absent_at tr c.requires.trie p c.args.at c.args.path c.node_of.result.now named_p c.node_of.ensures small c.in-None.ensures)))

pub retain_below-requires-2 : goal.retain_below-requires-2
retain_below-requires-2 g t c κs within =
    let tr = c.args.trie.now in
    let p = c.requires.named.0 in
    let most = c.requires.level in
    let apart = c.if-level-eq5.false in
    let same = c.requires.named.2.depth_is in
    let above = depth_of tr c.requires.trie p c.args.at c.requires.named.1 in
    let mine = c.ask_value.ensures.asked p c.requires.named.1 in
    let trie = mine.trie in
    let wide = width_kept g.R.Bits.WIDTH tr c.ask_value.new.trie c.requires.trie mine.trie mine.fewer c.requires.width in
    let position : (x : KeyBits) × (number_at c.ask_value.new.trie x ≡ Some c.args.at) × IsNamed g.R.Bits.bits g.R.Bits.WIDTH c.args.key x c.args.depth (low_bits (c.args.level + 1) (2 * c.args.path)) = (p, still_named tr c.ask_value.new.trie p c.args.at mine.numbers c.requires.named.1, named_left g.R.Bits.bits g.R.Bits.WIDTH c.args.key p c.args.depth c.args.level c.args.path c.requires.named.2) in
    let less : 157 - (6 * (c.args.depth / 5) + (c.args.level + 1)) < 157 - (6 * (c.args.depth / 5) + c.args.level) = omega (arith, most, apart, same, above.1) in
    let twice : 2 ^ (c.args.level + 1) ≡ 2 * 2 ^ c.args.level = twice_power c.args.level in
    let path = c.requires.path in
    let half : 2 * c.args.path < 2 ^ (c.args.level + 1) = omega (arith, path, twice) in
    let deeper : c.args.level + 1 ≤ 5 = omega (arith, most, apart) in
    search rules

pub overflow_add-depth-2 : goal.overflow_add-depth-2
overflow_add-depth-2 g t c =
    let deep = (depth_of c.args.trie.now c.requires.trie c.requires.named.0 c.args.at c.requires.named.1).1 in
    let same = c.requires.named.2.depth_is in
    let level = c.requires.level in
    omega (arith, deep, same, level)

pub retain_below-requires-3 : goal.retain_below-requires-3
retain_below-requires-3 g t c κs within =
    let tr = c.args.trie.now in
    let p = c.requires.named.0 in
    let most = c.requires.level in
    let apart = c.if-level-eq5.false in
    let same = c.requires.named.2.depth_is in
    let above = depth_of tr c.requires.trie p c.args.at c.requires.named.1 in
    let mine = c.ask_value.ensures.asked p c.requires.named.1 in
    let named1 = still_named tr c.ask_value.new.trie p c.args.at mine.numbers c.requires.named.1 in
    let left = c.retain_below-2.ensures.sifted p named1 in
    let trie = left.trie in
    let wide = width_kept g.R.Bits.WIDTH tr c.retain_below-2.new.trie c.requires.trie left.trie (λ k h. mine.fewer k (left.fewer k h)) c.requires.width in
    let position : (x : KeyBits) × (number_at c.retain_below-2.new.trie x ≡ Some c.args.at) × IsNamed g.R.Bits.bits g.R.Bits.WIDTH c.with_one-other.result x c.args.depth (low_bits (c.args.level + 1) (2 * c.args.path + 1))
    = (p, still_named c.ask_value.new.trie c.retain_below-2.new.trie p c.args.at left.numbers named1, named_right g.R.Bits.bits g.R.Bits.WIDTH c.args.key c.with_one-other.result p c.args.depth c.args.level c.args.path c.with_one-other.ensures c.requires.named.2) in
    let less : 157 - (6 * (c.args.depth / 5) + (c.args.level + 1)) < 157 - (6 * (c.args.depth / 5) + c.args.level) = omega (arith, most, apart, same, above.1) in
    let twice : 2 ^ (c.args.level + 1) ≡ 2 * 2 ^ c.args.level = twice_power c.args.level in
    let path = c.requires.path in
    let half : 2 * c.args.path + 1 < 2 ^ (c.args.level + 1) = omega (arith, path, twice) in
    let deeper : c.args.level + 1 ≤ 5 = omega (arith, most, apart) in
    search rules

pub returns-clause-sifted : goal.returns-clause-sifted
returns-clause-sifted g t c = λ p named.
    let tr = c.args.trie.now in
    let most = c.requires.level in
    let apart = c.if-level-eq5.false in
    let above = depth_of tr c.requires.trie p c.args.at named in
    let s = low_bits c.args.level c.args.path in
    let mine = c.ask_value.ensures.asked p named in
    let named1 = still_named tr c.ask_value.new.trie p c.args.at mine.numbers named in
    let left = c.retain_below-2.ensures.sifted p named1 in
    let named2 = still_named c.ask_value.new.trie c.retain_below-2.new.trie p c.args.at left.numbers named1 in
    let right = c.retain_below-3.ensures.sifted p named2 in
    let size = length-low_bits c.args.level c.args.path in
    sifted_halves _ _ _ _ _ tr c.ask_value.new.trie c.retain_below-2.new.trie c.retain_below-3.new.trie c.requires.trie p s above.0 (omega (arith, size, most, apart)) mine
    (sifted_key _ _ _ _ _ p _ _ (left_key p c.args.level c.args.path) left)
    (sifted_key _ _ _ _ _ p _ _ (right_key p c.args.level c.args.path) right)
