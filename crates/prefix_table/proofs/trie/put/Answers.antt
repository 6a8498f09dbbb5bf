use Rattle.std.proofs.Common.{ap, is_some, refl, sym, ◌∙◌, arith, subst, ◌++◌}
use Rattle.std.proofs.lemmas.Nat.Bits.{shr_and_one}
use Rattle.prefix_table.specs.Writes.{IsSameTrie, IsStored}
use Rattle.prefix_table.specs.declared.trie.Trie.{Trie}
use Rattle.prefix_table.proofs.StoreLaws.{ones_within}
use Rattle.prefix_table.proofs.TrieReads.{same_node}
use Rattle.prefix_table.proofs.TrieWays.{number_tells}
use Rattle.prefix_table.proofs.TrieWrites.{value_replaced}
use Rattle.prefix_table.proofs.TrieInserts.{same_alike, inserted_new, inserted_refused, inserted_over, nothing_held, something_held}
use Rattle.prefix_table.proofs.trie.put.Goals as goal

pub node_of-node-requires-clause-named : goal.node_of-node-requires-clause-named
node_of-node-requires-clause-named g c = ap is_some (number_tells c.args.trie.now c.requires.trie c.requires.position.0 c.args.at c.requires.position.1).1.named

pub node_of-node-requires-clause-within : goal.node_of-node-requires-clause-within
node_of-node-requires-clause-within g c = (number_tells c.args.trie.now c.requires.trie c.requires.position.0 c.args.at c.requires.position.1).1.limit

pub replace_value-requires-clause-count : goal.replace_value-requires-clause-count
replace_value-requires-clause-count g c =
    (c.requires.trie.each _ _ (same_node c.args.trie.now c.requires.trie c.requires.position.0 c.args.at c.node_of-node.result.now c.requires.position.1 c.node_of-node.ensures)).values

pub returns-then-node-slot-eq1 : goal.returns-then-node-slot-eq1
returns-then-node-slot-eq1 g c = λ p s named short is.
    let t = c.args.trie.now in
    let n = c.node_of-node.result.now in
    let set = sym (shr_and_one n.data_bits c.args.slot) ∙ c.if-node-slot-eq1.true in
    let here = same_node t c.requires.trie p c.args.at n named c.node_of-node.ensures in
    let stored = subst (λ (t' : Trie g.row.T.Denot). IsStored t t' (p ++ s) c.args.value) (sym c.replace_value.ensures.after) (value_replaced t c.requires.trie p s n c.args.slot c.args.value here short is set) in
    inserted_over t c.replace_value.new.trie (p ++ s) c.args.value c.replace_value.result stored (something_held t c.requires.trie p s c.args.at c.args.slot n c.replace_value.result named c.node_of-node.ensures short is c.replace_value.ensures.before)

pub cells_needed-requires : goal.cells_needed-requires
cells_needed-requires g c =
    let n = c.node_of-node.result.now in
    let node = c.requires.trie.each _ n (same_node c.args.trie.now c.requires.trie c.requires.position.0 c.args.at n c.requires.position.1 c.node_of-node.ensures) in
    let few = ones_within 31 n.data_bits node.data_within in
    omega (arith, few)

pub add_value-requires-clause-trie : goal.add_value-requires-clause-trie
add_value-requires-clause-trie g c =
    let t = c.args.trie.now in
    (same_alike t (record t { values = c.reserve.new.self }) (record { root = refl; nodes = refl; values = c.in-Ok.ensures.lists })).trie c.requires.trie

pub add_value-requires-clause-position : goal.add_value-requires-clause-position
add_value-requires-clause-position g c =
    let t = c.args.trie.now in
    let alike = same_alike t (record t { values = c.reserve.new.self }) (record { root = refl; nodes = refl; values = c.in-Ok.ensures.lists }) in
    (c.requires.position.0, alike.numbers c.requires.position.0 ∙ c.requires.position.1)

pub returns-in-Ok : goal.returns-in-Ok
returns-in-Ok g c = λ p s named short is.
    let t = c.args.trie.now in
    let n = c.node_of-node.result.now in
    let t1 : Trie g.row.T.Denot = record t { values = c.reserve.new.self } in
    let same : IsSameTrie t t1 = record { root = refl; nodes = refl; values = c.in-Ok.ensures.lists } in
    let alike = same_alike t t1 same in
    let none = nothing_held t c.requires.trie p s c.args.at c.args.slot n named c.node_of-node.ensures short is (λ one. c.if-node-slot-eq1.false (shr_and_one n.data_bits c.args.slot ∙ one)) in
    inserted_new t t1 c.add_value.new.trie same (p ++ s) c.args.value (c.add_value.ensures p s (alike.numbers p ∙ named) short is) none

pub returns-in-Err : goal.returns-in-Err
returns-in-Err g c = λ p s named short is.
    let t = c.args.trie.now in
    let n = c.node_of-node.result.now in
    let t1 : Trie g.row.T.Denot = record t { values = c.reserve.new.self } in
    let same : IsSameTrie t t1 = record { root = refl; nodes = refl; values = c.in-Err.ensures.lists } in
    let none = nothing_held t c.requires.trie p s c.args.at c.args.slot n named c.node_of-node.ensures short is (λ one. c.if-node-slot-eq1.false (shr_and_one n.data_bits c.args.slot ∙ one)) in
    inserted_refused t t1 c.requires.trie same (p ++ s) c.args.value none
