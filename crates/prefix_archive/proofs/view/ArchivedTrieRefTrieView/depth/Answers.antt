use Rattle.std.proofs.Common.{◌∙◌}
use Rattle.prefix_archive.proofs.Views.{node_depth}
use Rattle.prefix_archive.proofs.view.ArchivedTrieRefTrieView.depth.Goals as goal

pub returns : goal.returns
returns g c = let self = c.args.self.now in c.depth.ensures ∙ node_depth self.at.depth self.at.path self.place self.prefix_len self.stands
