use Rattle.std.proofs.Common.{ap, ◌∙◌}
use Rattle.std.specs.FinMap as map
use Rattle.prefix_view.proofs.LiveRoots.{root_ref, root_seen}
use Rattle.prefix_view.proofs.trie_ref.TrieRef.new_root.Goals as goal

pub invariant_of-result : goal.invariant_of-result
invariant_of-result g c = record { placed = ∣ root_ref _ c.args.table.now c.number.result c.requires.entries c.requires.kept (ap (map.get c.args.table.now.places) c.number.ensures ∙ c.root.ensures.named) c.root.ensures.kept ∣₁ }

pub returns : goal.returns
returns g c = root_seen 0 c.args.table.now
