use Rattle.std.proofs.Common.{sym}
use Rattle.prefix_model.proofs.KeyNumbers.{length-low_bits}
use Rattle.prefix_archive.proofs.view.ArchivedTrieRefTrieView.prefix_len.Goals as goal

pub returns : goal.returns
returns g c = sym (length-low_bits c.args.self.now.prefix_len c.args.self.now.place)
