use Rattle.std.proofs.Common.{◌≡◌, ℕ, eqb, sym, ap, ◌∙◌, refl}
use Rattle.std.specs.Prelude.{◌&&◌}
use Rattle.std.specs.Cmp.Lexicographic.{pointwise}
use Rattle.std.proofs.lemmas.Bool.{eqb-true, eq-eqb}
use Rattle.prefix_model.specs.InPlace.{records_in}
use Rattle.prefix_model.proofs.KeyLemmas.{both_true}
use Rattle.prefix_archive.proofs.Pieces.{same_items}
use Rattle.prefix_archive.proofs.Equality.{same_numbers, numbers_itself, same_table, same_nodes, same_values}
use Rattle.prefix_archive.proofs.map.ArchivedPrefixMapPartialEq.eq.Goals as goal

pub returns-then-eq-clause-tables : goal.returns-then-eq-clause-tables
returns-then-eq-clause-tables g c =
    let codec = g.T.ValueCodec.codec in
    let w : ℕ = g.P.R.Bits.WIDTH in
    let a = c.args.self.now in
    let b = c.args.other.now in
    let nodes : a.nodes.bytes.now ≡ b.nodes.bytes.now = same_numbers _ _ (sym c.eq.ensures ∙ c.if-eq.true) in (
      (λ yes.
          let p = both_true (pointwise eqb a.values.bytes.now b.values.bytes.now) (eqb a.values.len b.values.len) (sym c.eq-then-eq.ensures ∙ yes) in
          same_table g.row.T.coded codec w (records_in a.nodes.bytes.now) (records_in b.nodes.bytes.now) a.values.list.items b.values.list.items a.table b.table (ap records_in nodes)
          (same_items codec g.row.T.coded a.values.len b.values.len a.values.bytes.now b.values.bytes.now (eqb-true a.values.len b.values.len p.1) (same_numbers a.values.bytes.now b.values.bytes.now p.0) a.values.list b.values.list)),
      (λ e.
          let v = same_values g.row.T.coded codec w (records_in a.nodes.bytes.now) (records_in b.nodes.bytes.now) a.values.len b.values.len a.values.bytes.now b.values.bytes.now a.values.list b.values.list a.table b.table e in
          c.eq-then-eq.ensures ∙ (λ i. pointwise eqb (v.0 i) b.values.bytes.now && eqb (v.1 i) b.values.len) ∙ (λ i. numbers_itself b.values.bytes.now i && eq-eqb b.values.len b.values.len refl i)),
    )

pub returns-else-eq-clause-tables : goal.returns-else-eq-clause-tables
returns-else-eq-clause-tables g c =
    let codec = g.T.ValueCodec.codec in
    let w : ℕ = g.P.R.Bits.WIDTH in
    let a = c.args.self.now in
    let b = c.args.other.now in (
      (λ yes. absurd (let x = sym yes ∙ c.if-eq.false in cc)),
      (λ e.
          let n = same_nodes g.row.T.coded codec w a.nodes.bytes.now b.nodes.bytes.now a.values.list.items b.values.list.items a.table b.table a.records_spelled b.records_spelled e in
          c.eq.ensures ∙ ap (λ x. pointwise eqb x b.nodes.bytes.now) n ∙ numbers_itself b.nodes.bytes.now),
    )
