use Rattle.std.proofs.Common.{rules, ◌≡◌, ◌+◌, ◌-◌, ◌%◌, ◌<◌, ◌≤◌, take, drop, length, ap, arith, is_some, subst, refl}
use Rattle.prefix_model.specs.Keys.{KeyBits, number}
use Rattle.prefix_table.specs.Writes.{IsCut}
use Rattle.prefix_model.proofs.KeyPlaces.{part-lt}
use Rattle.prefix_table.proofs.TrieReads.{same_node}
use Rattle.prefix_table.proofs.TrieWays.{number_tells}
use Rattle.prefix_table.proofs.TrieInserts.{next_position}
use Rattle.prefix_table.proofs.TrieRemoves.{pruned_full, pruned_bare, child_here, no_child_here, removed_at, removed_here, removed_nowhere, removed_child, still_there, bare_child, pruned_way, goes_not, cut_gone}
use Rattle.prefix_table.proofs.trie.+remove_below.Goals as goal

pub returns-then-len-depth-lt5 : goal.returns-then-len-depth-lt5
returns-then-len-depth-lt5 g t c =
    let bits = g.R.Bits.bits c.args.key in
    let whole = g.met.R.Bits.length_law c.args.key in
    let width = c.requires.width in
    let from = c.requires.from in
    let short = c.if-len-depth-lt5.true in
    record {
      removed =
          removed_here c.args.trie.now c.take_at.new.trie bits c.args.len c.args.depth c.take_at.result c.requires.at_five from (omega (arith, short))
          (removed_at c.args.trie.now c.take_at.new.trie bits c.args.len c.args.at c.args.depth c.slot_of.result (omega (arith, whole, width)) from c.requires.named (omega (arith, short)) c.slot_of.ensures.value c.take_at.result c.take_at.ensures.removed)
          (λ q s e. c.take_at.ensures.numbers _ q s c.requires.named e);
      done = (λ no. cc, λ w. absurd (let more = w.down in omega (arith, more, short, from)));
    }

pub node_of-requires-clause-named : goal.node_of-requires-clause-named
node_of-requires-clause-named g t c = ap is_some (number_tells c.args.trie.now c.requires.trie _ c.args.at c.requires.named).1.named

pub node_of-requires-clause-within : goal.node_of-requires-clause-within
node_of-requires-clause-within g t c = (number_tells c.args.trie.now c.requires.trie _ c.args.at c.requires.named).1.limit

pub child_of-requires : goal.child_of-requires
child_of-requires g t c =
    let small : number (drop c.args.depth (take (c.args.depth + 5) (g.R.Bits.bits c.args.key))) < 32 = part-lt (g.R.Bits.bits c.args.key) c.args.depth (c.args.depth + 5) 5 (omega arith) in
    rw c.bits_between-slot.ensures small

pub remove_below-value-requires : goal.remove_below-value-requires
remove_below-value-requires g t_ c κs measured =
    let t = c.args.trie.now in
    let bits = g.R.Bits.bits c.args.key in
    let whole = g.met.R.Bits.length_law c.args.key in
    let width = c.requires.width in
    let down = c.if-len-depth-lt5.false in
    let within : c.args.depth + 5 ≤ length bits = omega (arith, whole, width, down) in
    let k = child_here t c.requires.trie bits c.args.depth c.args.at c.bits_between-slot.result c.in-Some.child c.node_of.result.now within c.requires.named c.node_of.ensures c.bits_between-slot.ensures c.in-Some.ensures in
    let named = k.named in
    let five = c.requires.at_five in
    let less : c.args.len - (c.args.depth + 5) < c.args.len - c.args.depth = omega (arith, down) in
    let from : c.args.depth + 5 ≤ c.args.len = omega (arith, down) in
    let at_five : (c.args.depth + 5) % 5 ≡ 0 = omega (arith, five) in
    search rules

pub node_of-requires-in-Some-clause-named : goal.node_of-requires-in-Some-clause-named
node_of-requires-in-Some-clause-named g t_ c =
    let t = c.args.trie.now in
    let bits = g.R.Bits.bits c.args.key in
    let whole = g.met.R.Bits.length_law c.args.key in
    let width = c.requires.width in
    let down = c.if-len-depth-lt5.false in
    let within : c.args.depth + 5 ≤ length bits = omega (arith, whole, width, down) in
    let k = child_here t c.requires.trie bits c.args.depth c.args.at c.bits_between-slot.result c.in-Some.child c.node_of.result.now within c.requires.named c.node_of.ensures c.bits_between-slot.ensures c.in-Some.ensures in
    let t1 = c.remove_below-value.new.trie in
    let below = c.remove_below-value.ensures.removed in
    let still = still_there t t1 bits c.args.len c.args.depth c.args.at c.in-Some.child c.remove_below-value.result.value c.requires.named k.named below in
    ap is_some (number_tells t1 below.trie _ c.in-Some.child still.child).1.named

pub node_of-requires-in-Some-clause-within : goal.node_of-requires-in-Some-clause-within
node_of-requires-in-Some-clause-within g t_ c =
    let t = c.args.trie.now in
    let bits = g.R.Bits.bits c.args.key in
    let whole = g.met.R.Bits.length_law c.args.key in
    let width = c.requires.width in
    let down = c.if-len-depth-lt5.false in
    let within : c.args.depth + 5 ≤ length bits = omega (arith, whole, width, down) in
    let k = child_here t c.requires.trie bits c.args.depth c.args.at c.bits_between-slot.result c.in-Some.child c.node_of.result.now within c.requires.named c.node_of.ensures c.bits_between-slot.ensures c.in-Some.ensures in
    let t1 = c.remove_below-value.new.trie in
    let below = c.remove_below-value.ensures.removed in
    let still = still_there t t1 bits c.args.len c.args.depth c.args.at c.in-Some.child c.remove_below-value.result.value c.requires.named k.named below in
    (number_tells t1 below.trie _ c.in-Some.child still.child).1.limit

pub returns-then-stays : goal.returns-then-stays
returns-then-stays g t_ c =
    let t = c.args.trie.now in
    let bits = g.R.Bits.bits c.args.key in
    let whole = g.met.R.Bits.length_law c.args.key in
    let width = c.requires.width in
    let down = c.if-len-depth-lt5.false in
    let within : c.args.depth + 5 ≤ length bits = omega (arith, whole, width, down) in
    let k = child_here t c.requires.trie bits c.args.depth c.args.at c.bits_between-slot.result c.in-Some.child c.node_of.result.now within c.requires.named c.node_of.ensures c.bits_between-slot.ensures c.in-Some.ensures in
    let t1 = c.remove_below-value.new.trie in
    let below = c.remove_below-value.ensures.removed in
    let still = still_there t t1 bits c.args.len c.args.depth c.args.at c.in-Some.child c.remove_below-value.result.value c.requires.named k.named below in
    let here = same_node t1 below.trie (take (c.args.depth + 5) bits) c.in-Some.child c.node_of-in-Some.result.now still.child c.node_of-in-Some.ensures in
    record {
      removed =
          removed_child t t1 t1 bits c.args.len c.args.depth c.remove_below-value.result.value c.requires.at_five (omega (arith, down)) below
          (pruned_full t1 below.trie (take (c.args.depth + 5) bits) c.node_of-in-Some.result.now here (λ z. let no = (c.is_empty-stays.ensures).1 z in let not = c.if-stays.true in cc)) (λ q s e. refl);
      done = (λ _. record { down = omega (arith, down); stands = ap is_some still.child }, λ _. refl);
    }

pub cut_child-requires-clause-position : goal.cut_child-requires-clause-position
cut_child-requires-clause-position g t_ c =
    let t = c.args.trie.now in
    let bits = g.R.Bits.bits c.args.key in
    let whole = g.met.R.Bits.length_law c.args.key in
    let width = c.requires.width in
    let down = c.if-len-depth-lt5.false in
    let within : c.args.depth + 5 ≤ length bits = omega (arith, whole, width, down) in
    let k = child_here t c.requires.trie bits c.args.depth c.args.at c.bits_between-slot.result c.in-Some.child c.node_of.result.now within c.requires.named c.node_of.ensures c.bits_between-slot.ensures c.in-Some.ensures in
    let t1 = c.remove_below-value.new.trie in
    let below = c.remove_below-value.ensures.removed in
    let still = still_there t t1 bits c.args.len c.args.depth c.args.at c.in-Some.child c.remove_below-value.result.value c.requires.named k.named below in
    (take c.args.depth bits, still.here)

pub cut_child-requires-clause-slot : goal.cut_child-requires-clause-slot
cut_child-requires-clause-slot g t c =
    let small : number (drop c.args.depth (take (c.args.depth + 5) (g.R.Bits.bits c.args.key))) < 32 = part-lt (g.R.Bits.bits c.args.key) c.args.depth (c.args.depth + 5) 5 (omega arith) in
    rw c.bits_between-slot.ensures small

pub cut_child-requires-clause-child : goal.cut_child-requires-clause-child
cut_child-requires-clause-child g t_ c = λ n e.
    let t = c.args.trie.now in
    let bits = g.R.Bits.bits c.args.key in
    let whole = g.met.R.Bits.length_law c.args.key in
    let width = c.requires.width in
    let down = c.if-len-depth-lt5.false in
    let within : c.args.depth + 5 ≤ length bits = omega (arith, whole, width, down) in
    let k = child_here t c.requires.trie bits c.args.depth c.args.at c.bits_between-slot.result c.in-Some.child c.node_of.result.now within c.requires.named c.node_of.ensures c.bits_between-slot.ensures c.in-Some.ensures in
    let t1 = c.remove_below-value.new.trie in
    let below = c.remove_below-value.ensures.removed in
    let still = still_there t t1 bits c.args.len c.args.depth c.args.at c.in-Some.child c.remove_below-value.result.value c.requires.named k.named below in
    bare_child t1 below.trie bits c.args.depth c.args.at c.in-Some.child c.bits_between-slot.result c.node_of-in-Some.result.now n still within c.bits_between-slot.ensures c.node_of-in-Some.ensures e ((c.is_empty-stays.ensures).0 c.if-stays.false)

pub returns-else-stays : goal.returns-else-stays
returns-else-stays g t_ c =
    let t = c.args.trie.now in
    let bits = g.R.Bits.bits c.args.key in
    let whole = g.met.R.Bits.length_law c.args.key in
    let width = c.requires.width in
    let down = c.if-len-depth-lt5.false in
    let within : c.args.depth + 5 ≤ length bits = omega (arith, whole, width, down) in
    let k = child_here t c.requires.trie bits c.args.depth c.args.at c.bits_between-slot.result c.in-Some.child c.node_of.result.now within c.requires.named c.node_of.ensures c.bits_between-slot.ensures c.in-Some.ensures in
    let t1 = c.remove_below-value.new.trie in
    let below = c.remove_below-value.ensures.removed in
    let still = still_there t t1 bits c.args.len c.args.depth c.args.at c.in-Some.child c.remove_below-value.result.value c.requires.named k.named below in
    let here = same_node t1 below.trie (take (c.args.depth + 5) bits) c.in-Some.child c.node_of-in-Some.result.now still.child c.node_of-in-Some.ensures in
    let empty = (c.is_empty-stays.ensures).0 c.if-stays.false in
    let cut = subst (λ (r : KeyBits). IsCut t1 c.cut_child.new.trie r) (next_position bits c.args.depth c.bits_between-slot.result within c.bits_between-slot.ensures) (c.cut_child.ensures.cut (take c.args.depth bits) still.here) in
    record {
      removed =
          removed_child t t1 c.cut_child.new.trie bits c.args.len c.args.depth c.remove_below-value.result.value c.requires.at_five (omega (arith, down)) below
          (pruned_bare t1 c.cut_child.new.trie below.trie (take (c.args.depth + 5) bits) c.node_of-in-Some.result.now here empty.0 empty.1 cut) (λ q s e. c.cut_child.ensures.numbers _ q s still.here e);
      done = (λ yes. let no = c.if-done.false in cc, λ w. absurd (goes_not c.cut_child.new.trie cut.trie (take (c.args.depth + 5) bits) (cut_gone t1 c.cut_child.new.trie (take (c.args.depth + 5) bits) cut) w.stands));
    }

pub returns-in-None : goal.returns-in-None
returns-in-None g t_ c =
    let t = c.args.trie.now in
    let bits = g.R.Bits.bits c.args.key in
    let whole = g.met.R.Bits.length_law c.args.key in
    let width = c.requires.width in
    let down = c.if-len-depth-lt5.false in
    let within : c.args.depth + 5 ≤ length bits = omega (arith, whole, width, down) in
    record {
      removed =
          removed_nowhere t c.requires.trie bits c.args.len c.args.depth (omega (arith, whole, width)) c.requires.at_five (omega (arith, down))
          (no_child_here t c.requires.trie bits c.args.depth c.args.at c.bits_between-slot.result c.node_of.result.now within c.requires.named c.node_of.ensures c.bits_between-slot.ensures c.in-None.ensures);
      done = (λ no. cc, λ w. absurd (goes_not t c.requires.trie (take (c.args.depth + 5) bits) (ap is_some (no_child_here t c.requires.trie bits c.args.depth c.args.at c.bits_between-slot.result c.node_of.result.now within c.requires.named c.node_of.ensures c.bits_between-slot.ensures c.in-None.ensures)) w.stands));
    }

pub returns-then-done-clause-removed : goal.returns-then-done-clause-removed
returns-then-done-clause-removed g t_ c =
    let t = c.args.trie.now in
    let bits = g.R.Bits.bits c.args.key in
    let whole = g.met.R.Bits.length_law c.args.key in
    let width = c.requires.width in
    let down = c.if-len-depth-lt5.false in
    let within : c.args.depth + 5 ≤ length bits = omega (arith, whole, width, down) in
    let k = child_here t c.requires.trie bits c.args.depth c.args.at c.bits_between-slot.result c.in-Some.child c.node_of.result.now within c.requires.named c.node_of.ensures c.bits_between-slot.ensures c.in-Some.ensures in
    let t1 = c.remove_below-value.new.trie in
    let below = c.remove_below-value.ensures.removed in
    let still = still_there t t1 bits c.args.len c.args.depth c.args.at c.in-Some.child c.remove_below-value.result.value c.requires.named k.named below in
    let goes = c.remove_below-value.ensures.done.0 c.if-done.true in
    removed_child t t1 t1 bits c.args.len c.args.depth c.remove_below-value.result.value c.requires.at_five (omega (arith, down)) below
    (pruned_way t1 below.trie bits (c.args.depth + 5) (let further = goes.down in omega (arith, further, whole, width)) c.in-Some.child still.child goes.stands) (λ q s e. refl)

pub returns-then-done-clause-done : goal.returns-then-done-clause-done
returns-then-done-clause-done g t_ c =
    let t = c.args.trie.now in
    let bits = g.R.Bits.bits c.args.key in
    let whole = g.met.R.Bits.length_law c.args.key in
    let width = c.requires.width in
    let down = c.if-len-depth-lt5.false in
    let within : c.args.depth + 5 ≤ length bits = omega (arith, whole, width, down) in
    let k = child_here t c.requires.trie bits c.args.depth c.args.at c.bits_between-slot.result c.in-Some.child c.node_of.result.now within c.requires.named c.node_of.ensures c.bits_between-slot.ensures c.in-Some.ensures in
    let still = still_there t c.remove_below-value.new.trie bits c.args.len c.args.depth c.args.at c.in-Some.child c.remove_below-value.result.value c.requires.named k.named c.remove_below-value.ensures.removed in
    (λ _. record { down = omega (arith, down); stands = ap is_some still.child }, λ _. c.if-done.true)
