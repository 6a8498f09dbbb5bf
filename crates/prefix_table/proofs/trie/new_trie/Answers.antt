use Rattle.prefix_table.proofs.TrieNew.{entries_of_new, kept_of_new, new_is_trie}
use Rattle.prefix_table.proofs.trie.new_trie.Goals as goal

pub returns-clause-trie : goal.returns-clause-trie
returns-clause-trie g c = new_is_trie c.new.result c.new-2.result

pub returns-clause-entries : goal.returns-clause-entries
returns-clause-entries g c = entries_of_new c.new.result c.new-2.result

pub returns-clause-kept : goal.returns-clause-kept
returns-clause-kept g c = kept_of_new c.new.result c.new-2.result
