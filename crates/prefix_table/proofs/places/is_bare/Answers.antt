use Rattle.std.proofs.Common.{arith, refl}
use Rattle.prefix_model.specs.TableViews.{position_at}
use Rattle.prefix_table.proofs.BarePlaces.{bare_starts, bare_grows, all_bare, run_starts, run_short, children_start, not_true}
use Rattle.prefix_table.proofs.places.is_bare.Goals as goal

pub loop-level-init : goal.loop-level-init
loop-level-init g c = bare_starts c.args.table.now (position_at c.args.table.now c.args.place.now.at) c.args.place.now.level c.args.place.now.number c.requires.place.number c.requires.below

pub any_between-requires-clause-start : goal.any_between-requires-clause-start
any_between-requires-clause-start g c = run_starts _ _ _ _ _ _ _ c.loop-level-test.true c.loop-level.invariant

pub any_between-requires-clause-count : goal.any_between-requires-clause-count
any_between-requires-clause-count g c = run_short _ _ _ _ _ _ _ (omega arith) c.loop-level.invariant

pub loop-level-preserved : goal.loop-level-preserved
loop-level-preserved g c =
    bare_grows c.args.table.now (position_at c.args.table.now c.args.place.now.at) c.args.place.now.level c.args.place.now.number c.requires.place.number
    c.node-bits.result.data_bits _ _ _ _ _ _ c.node-bits.ensures.«data» c.loop-level-test.true c.loop-level.auto.level c.loop-level.invariant (c.any_between.ensures c.if-any_between.false) (refl) (refl) (refl)

pub any_between-requires-2-clause-start : goal.any_between-requires-2-clause-start
any_between-requires-2-clause-start g c = children_start _ _ _ _ _ _ _ (omega arith) c.loop-level.invariant

pub any_between-requires-2-clause-count : goal.any_between-requires-2-clause-count
any_between-requires-2-clause-count g c = run_short _ _ _ _ _ _ _ (omega arith) c.loop-level.invariant

pub returns : goal.returns
returns g c = λ none.
    all_bare c.args.table.now (position_at c.args.table.now c.args.place.now.at) c.args.place.now.level c.args.place.now.number c.requires.place.number c.requires.holds c.requires.place.node
    c.node-bits.result.child_bits _ _ _ c.node-bits.ensures.children c.requires.place.level (omega arith) c.loop-level.invariant (c.any_between-2.ensures (not_true _ none))
