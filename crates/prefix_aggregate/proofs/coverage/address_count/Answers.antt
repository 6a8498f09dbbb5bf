use Rattle.std.proofs.Common.{◌≡◌, ◌^◌, ◌<◌, ◌≤◌, ℕ, [], None, Some, sym, ap, ◌∙◌, subst, arith}
use Rattle.std.specs.Prelude.{is_some, pos}
use Rattle.std.specs.FinMap as map
use Rattle.num_traits.specs.Laws.{Checks}
use mathlib.Core.Bool.{true≢false}
use lib.Pow.{pow_mono}
use Rattle.prefix_model.specs.Coverage.{answered}
use Rattle.prefix_model.specs.Tables.{answer}
use Rattle.prefix_model.specs.TableViews.{TableView, position_at}
use Rattle.prefix_model.proofs.TablePositions.{node_named}
use Rattle.prefix_model.specs.Places.{answers_from}
use Rattle.prefix_model.proofs.Counting.CountLaws.{answered-less}
use Rattle.prefix_model.proofs.Counting.NodeCounts.{count_cast}
use Rattle.prefix_aggregate.proofs.coverage.address_count.Goals as goal

-- what is counted from the root on
all_from : {T : Type 0} (view : TableView T) (at width w : ℕ) → width ≡ w → map.get view.places at ≡ Some [] → answered width (answers_from view (position_at view at) None) ≡ answered w (answer view.entries)
all_from view at width w same root = λ j. answered (same j) (answers_from view (node_named view at [] root j) None)

pub returns-then-covers_in_aggregate : goal.returns-then-covers_in_aggregate
returns-then-covers_in_aggregate g c = λ k e. c.covers_in_aggregate.ensures.0 c.if-covers_in_aggregate.true k (omega (arith, e))

pub count_node-requires : goal.count_node-requires
count_node-requires g c =
    let view = c.args.table.now in
    let w = g.R.Bits.WIDTH in
    let less = answered-less w (answer view.entries) (λ all. absurd (true≢false (sym (c.covers_in_aggregate.ensures.1 (λ k e. all k (omega (arith, e)))) ∙ c.if-covers_in_aggregate.false))) in
    let most : 2 ^ w ≤ 2 ^ 128 = pow_mono g.met.R.Bits.greatest_width_law in
    let few : answered w (answer view.entries) < 2 ^ 128 = omega (arith, less, most) in
    record {
      holds = c.root.ensures.kept;
      named = ap is_some c.root.ensures.named;
      left = let e = c.WIDTH.ensures in let l = g.met.R.Bits.greatest_width_law in omega (arith, e, l);
      few = subst (λ (n : ℕ). n < 2 ^ 128) (sym (all_from view c.root.result c.WIDTH.result w c.WIDTH.ensures c.root.ensures.named)) few;
    }

pub returns : goal.returns
returns g c =
    let view = c.args.table.now in
    let w = g.R.Bits.WIDTH in
    let counted = c.count_node.ensures ∙ all_from view c.root.result c.WIDTH.result w c.WIDTH.ensures c.root.ensures.named in
    count_cast g.R.Number.value g.R.Number.fits w (answer view.entries) (Checks g.R.Number.value g.R.Number.fits (pos (answered w (answer view.entries)))) (λ no. no) (λ x yes. yes.1) c.cast.result (λ n l. (g.met.R.Key.numbers_law n).1 l)
    (λ all. absurd (true≢false (sym (c.covers_in_aggregate.ensures.1 (λ k e. all k (omega (arith, e)))) ∙ c.if-covers_in_aggregate.false)))
    (subst (λ (n : ℕ). Checks g.R.Number.value g.R.Number.fits (pos n) c.cast.result) counted (c.cast.ensures.value g.met.R.Integral.exact_law).0)
