use Rattle.std.proofs.Common.{◌^◌, ◌<◌, ◌≤◌, ℕ, [], sym, ap, ◌∙◌, subst, arith}
use Rattle.std.specs.Prelude.{pos}
use Rattle.num_traits.specs.Laws.{Checks}
use mathlib.Core.Bool.{true≢false}
use lib.Pow.{pow_mono}
use Rattle.prefix_model.specs.Coverage.{AllAnswered, answered}
use Rattle.prefix_model.specs.Tables.{answer}
use Rattle.prefix_model.proofs.Counting.CountLaws.{answered-less}
use Rattle.prefix_model.proofs.Counting.NodeCounts.{count_cast}
use Rattle.prefix_archive.specs.Coverage.{answers_from}
use Rattle.prefix_archive.proofs.Views.{no_bits_left}
use Rattle.prefix_archive.proofs.map.ArchivedPrefixMap.address_count.Goals as goal

pub returns-then-covers : goal.returns-then-covers
returns-then-covers g c =
    let m = c.args.self.now.table.entries in
    let root = c.new_root.result in
    let told = c.covers.ensures m [] (ap (λ a. a.table.entries) c.new_root.ensures.map, no_bits_left root.prefix_len root.place c.new_root.ensures.length) in
    subst (λ n. AllAnswered n (answer m)) c.WIDTH.ensures (told.0 c.if-covers.true)

pub count_addresses-requires : goal.count_addresses-requires
count_addresses-requires g c =
    let m = c.args.self.now.table.entries in
    let w : ℕ = g.P.R.Bits.WIDTH in
    let root = c.new_root.result in
    let told = c.covers.ensures m [] (ap (λ a. a.table.entries) c.new_root.ensures.map, no_bits_left root.prefix_len root.place c.new_root.ensures.length) in
    let less = answered-less w (answer m) (λ all. absurd (true≢false (sym (told.1 (subst (λ n. AllAnswered n (answer m)) (sym c.WIDTH.ensures) all)) ∙ c.if-covers.false))) in
    let most : 2 ^ w ≤ 2 ^ 128 = pow_mono g.met.P.R.Bits.greatest_width_law in
    let few : answered w (answers_from m []) < 2 ^ 128 = omega (arith, less, most) in record { few = few }

pub returns : goal.returns
returns g c =
    let m = c.args.self.now.table.entries in
    let w : ℕ = g.P.R.Bits.WIDTH in
    let root = c.new_root.result in
    let told = c.covers.ensures m [] (ap (λ a. a.table.entries) c.new_root.ensures.map, no_bits_left root.prefix_len root.place c.new_root.ensures.length) in
    count_cast g.P.R.Number.value g.P.R.Number.fits w (answer m) (Checks g.P.R.Number.value g.P.R.Number.fits (pos (answered w (answer m)))) (λ no. no) (λ x yes. yes.1) c.cast.result (λ n l. (g.met.P.R.Key.numbers_law n).1 l)
    (λ all. absurd (true≢false (sym (told.1 (subst (λ n. AllAnswered n (answer m)) (sym c.WIDTH.ensures) all)) ∙ c.if-covers.false)))
    (subst (λ (n : ℕ). Checks g.P.R.Number.value g.P.R.Number.fits (pos n) c.cast.result) c.count_addresses.ensures (c.cast.ensures.value g.met.P.R.Integral.exact_law).0)
