use Rattle.std.proofs.Common.{sym, ap, ◌∙◌}
use Rattle.prefix_model.specs.Positions.{position_set, with_positions}
use Rattle.prefix_model.proofs.Building.{position_set-insert}
use Rattle.prefix_model.specs.TableViews.{key_of}
use Rattle.prefix_aggregate.proofs.writing.store.Goals as goal

pub returns-in_default-insert-clause-kept : goal.returns-in_default-insert-clause-kept
returns-in_default-insert-clause-kept g c = λ same.
    c.in_default-insert.ensures.kept
    ∙ ap (λ k. with_positions k (key_of (g.R.Bits.bits c.args.key) c.args.len)) same
    ∙ position_set-insert c.args.table.now.entries (key_of (g.R.Bits.bits c.args.key) c.args.len) c.in_ok-clone.field-0
    ∙ ap position_set (sym c.in_default-insert.ensures.stored)
