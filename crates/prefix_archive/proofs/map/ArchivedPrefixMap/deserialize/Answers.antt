use Rattle.std.proofs.Common.{sym, ap, ◌∙◌, subst}
use Rattle.std.specs.FinMap as map
use Rattle.prefix_model.specs.Positions.{position_set}
use Rattle.prefix_model.specs.Spelling.{Spells}
use Rattle.prefix_map.specs.MapViews.{FitsIn, MapView}
use Rattle.prefix_archive.specs.ViewLaws.{keeps_positions}
use Rattle.prefix_archive.proofs.Archived.{spells_one_table}
use Rattle.prefix_archive.proofs.map.ArchivedPrefixMap.deserialize.Goals as goal

pub read_family-requires : goal.read_family-requires
read_family-requires g c =
    let self = c.args.self.now in
    (self.table.entries, subst (λ b. Spells g.T.ValueCodec.codec g.P.R.Bits.WIDTH b self.table.entries) (sym self.whole) self.table.spelled)

pub from_table-requires : goal.from_table-requires
from_table-requires g c =
    let w = g.P.R.Bits.WIDTH in
    let table = c.in-Ok.table in
    let wide = c.in-Ok.ensures.table.width in
    let keeps = keeps_positions table.entries w wide in
    subst (λ n. FitsIn n table) g.met.P.PrefixBits.width_law (record { entries = wide; kept = λ p h. keeps.kept_width p (ap (λ k. map.contains_key k p) (sym c.in-Ok.ensures.kept) ∙ h) })

pub returns-in-Ok-clause-entries : goal.returns-in-Ok-clause-entries
returns-in-Ok-clause-entries g c =
    let self = c.args.self.now in
    ap (λ (v : MapView g.row.T.Denot). v.entries) c.from_table.ensures
    ∙ spells_one_table g.T.ValueCodec.codec g.P.R.Bits.WIDTH self.bytes.now c.in-Ok.table.entries self.table.entries c.in-Ok.ensures.table (subst (λ b. Spells g.T.ValueCodec.codec g.P.R.Bits.WIDTH b self.table.entries) (sym self.whole) self.table.spelled)

pub returns-in-Ok-clause-kept : goal.returns-in-Ok-clause-kept
returns-in-Ok-clause-kept g c =
    let self = c.args.self.now in
    ap (λ (v : MapView g.row.T.Denot). v.kept) c.from_table.ensures ∙ c.in-Ok.ensures.kept
    ∙ ap position_set (spells_one_table g.T.ValueCodec.codec g.P.R.Bits.WIDTH self.bytes.now c.in-Ok.table.entries self.table.entries c.in-Ok.ensures.table (subst (λ b. Spells g.T.ValueCodec.codec g.P.R.Bits.WIDTH b self.table.entries) (sym self.whole) self.table.spelled))
