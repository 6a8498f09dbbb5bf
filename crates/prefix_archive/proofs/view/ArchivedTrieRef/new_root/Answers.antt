use Rattle.std.proofs.Common.{arith}
use Rattle.prefix_archive.proofs.Views.{root_place}
use Rattle.prefix_archive.proofs.view.ArchivedTrieRef.new_root.Goals as goal

pub invariant_of-result : goal.invariant_of-result
invariant_of-result g c =
    record {
      stands = root_place c.root.result.depth c.root.result.path c.root.ensures.depth;
      small = omega arith;
      within = omega arith;
    }
