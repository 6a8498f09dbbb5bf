use Rattle.std.proofs.Common.{◌∙◌, ◌∷◌, ap, refl}
use Rattle.std.specs.Prelude.{OnOk, Result, Ok, Err}
use Rattle.prefix_aggregate.specs.Parts.{as_candidates}
use Rattle.prefix_aggregate.specs.Stacks.{kept_lists}
use Rattle.prefix_aggregate.proofs.PartLaws.{slice_values}
use Rattle.prefix_aggregate.proofs.keeping.add_part.Goals as goal

on_ok : {P Q : Type 0} {A E : Type 0} (r : Result A E) → OnOk r P → (P → Q) → OnOk r Q
on_ok (Ok a) h f = f h
on_ok (Err e) h f = tt

pub returns-clause-lists : goal.returns-clause-lists
returns-clause-lists g c = on_ok c.add_list.result c.add_list.ensures.lists (λ e.
    e ∙ ap (λ l. as_candidates l ∷ kept_lists c.args.stacks.now) (slice_values c.args.values.now c.args.values.now c.args.part.start c.args.part.len refl))
