use Rattle.std.proofs.Common.{sym, ap, ◌∙◌}
use lib.Count.{ones}
use Rattle.prefix_model.proofs.Bitmaps.SlotLaws.{place-ones, and_below}
use Rattle.prefix_archive.proofs.Places.{below-place}
use Rattle.prefix_archive.proofs.slots.bits_below.Goals as goal

pub returns-clause-count : goal.returns-clause-count
returns-clause-count c = ap ones (and_below c.args.bits c.args.place c.requires) ∙ sym (place-ones c.args.bits c.args.place) ∙ sym (below-place c.args.place c.args.bits)
