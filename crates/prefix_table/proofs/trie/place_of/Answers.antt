use Rattle.std.proofs.Common.{sym, ap, ◌∙◌}
use lib.Count.{ones}
use Rattle.prefix_model.proofs.Bitmaps.SlotLaws.{place-ones, and_below}
use Rattle.prefix_table.proofs.trie.place_of.Goals as goal

pub returns-clause-place : goal.returns-clause-place
returns-clause-place c = ap ones (and_below c.args.bits c.args.slot c.requires) ∙ sym (place-ones c.args.bits c.args.slot)
