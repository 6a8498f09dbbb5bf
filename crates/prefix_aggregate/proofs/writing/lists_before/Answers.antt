use Rattle.std.proofs.Common.{sym, ap, ◌∙◌}
use lib.Count.{ones}
use Rattle.prefix_model.proofs.Bitmaps.SlotLaws.{place-ones, and_below}
use Rattle.prefix_aggregate.proofs.writing.lists_before.Goals as goal

pub returns-clause-count : goal.returns-clause-count
returns-clause-count c = ap ones (and_below c.args.mask c.args.place c.requires) ∙ sym (place-ones c.args.mask c.args.place)
