use Rattle.std.proofs.Common.{ap, sym, ◌∙◌, cond, None}
use Rattle.std.specs.Option.{option_copied}
use Rattle.prefix_model.specs.TableViews.{key_of}
use Rattle.prefix_model.specs.Building.{insert_all}
use Rattle.prefix_model.specs.LeastTable.{entry}
use Rattle.prefix_aggregate.specs.Lists.{at}
use Rattle.prefix_aggregate.proofs.ConsistentLaws.{on_ok}
use Rattle.prefix_aggregate.proofs.StoringLaws.{stored_only}
use Rattle.prefix_aggregate.proofs.writing.store_value.Goals as goal

pub returns-then-is_inherited-clause-entries : goal.returns-then-is_inherited-clause-entries
returns-then-is_inherited-clause-entries g c =
    ap (λ s. insert_all c.args.least.now.entries (at (key_of (g.R.Bits.bits c.args.key) c.args.len) (entry s)))
    (ap (λ t. cond t None (option_copied c.args.answer)) (sym c.if-is_inherited.true ∙ c.is_inherited.ensures) ∙ sym (stored_only g.T.Ord.cmp (option_copied c.args.answer) (option_copied c.args.above)))

pub returns-clause-entries : goal.returns-clause-entries
returns-clause-entries g c =
    on_ok c.store.result c.store.ensures.entries (λ e. e ∙
    ap (λ s. insert_all c.args.least.now.entries (at (key_of (g.R.Bits.bits c.args.key) c.args.len) (entry s)))
    (ap (λ t. cond t None (option_copied c.args.answer)) (sym c.if-is_inherited.false ∙ c.is_inherited.ensures) ∙ sym (stored_only g.T.Ord.cmp (option_copied c.args.answer) (option_copied c.args.above))))
