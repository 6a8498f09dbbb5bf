use Rattle.std.proofs.Common.{ap, is_some, ◌∙◌, ◌++◌}
use Rattle.std.proofs.lemmas.Nat.Bits.{shr_and_one}
use Rattle.prefix_table.proofs.TrieWays.{number_tells}
use Rattle.prefix_table.proofs.TrieInserts.{nothing_held}
use Rattle.prefix_table.proofs.TrieRemoves.{removed_none, removed_some}
use Rattle.prefix_table.proofs.trie.take_at.Goals as goal

pub node_of-requires-clause-named : goal.node_of-requires-clause-named
node_of-requires-clause-named g c = ap is_some (number_tells c.args.trie.now c.requires.trie c.requires.position.0 c.args.at c.requires.position.1).1.named

pub node_of-requires-clause-within : goal.node_of-requires-clause-within
node_of-requires-clause-within g c = (number_tells c.args.trie.now c.requires.trie c.requires.position.0 c.args.at c.requires.position.1).1.limit

pub returns-then-node_of-slot-eq1-clause-removed : goal.returns-then-node_of-slot-eq1-clause-removed
returns-then-node_of-slot-eq1-clause-removed g c = λ p s named short is.
    removed_some c.args.trie.now c.take_value.new.trie c.requires.trie (p ++ s) c.take_value.result (c.take_value.ensures.taken p s named short is)

pub returns-else-node_of-slot-eq1-clause-removed : goal.returns-else-node_of-slot-eq1-clause-removed
returns-else-node_of-slot-eq1-clause-removed g c = λ p s named short is.
    let n = c.node_of.result.now in
    removed_none c.args.trie.now c.requires.trie (p ++ s)
    (nothing_held c.args.trie.now c.requires.trie p s c.args.at c.args.slot n named c.node_of.ensures short is (λ one. c.if-node_of-slot-eq1.false (shr_and_one n.data_bits c.args.slot ∙ one)))
