use Rattle.std.proofs.Common.{ap, ◌∙◌, subst}
use Rattle.prefix_archive.specs.ArchivedViews.{seen_in}
use Rattle.prefix_archive.specs.ViewLaws.{archived_place}
use Rattle.prefix_archive.specs.Coverage.{IsViewOf}
use Rattle.prefix_archive.proofs.CoverageLaws.{found_view}
use Rattle.prefix_archive.proofs.Iterating.{inside_found, walked_below}
use Rattle.prefix_archive.proofs.Views.{no_bits_left}
use Rattle.prefix_archive.proofs.map.ArchivedPrefixMap.children.Goals as goal

pub new-requires-clause-inside : goal.new-requires-clause-inside
new-requires-clause-inside g c =
    let root = c.new_root.result in
    inside_found (λ v. seen_in v.at.map.table.entries v.place v.prefix_len) (seen_in root.at.map.table.entries root.place root.prefix_len) c.find.result (g.P.PrefixKey.key c.args.prefix.now) c.find.ensures

pub returns : goal.returns
returns g c =
    let m = c.args.self.now.table.entries in
    let key = g.P.PrefixKey.key c.args.prefix.now in
    let root = c.new_root.result in
    let place = archived_place root.at.map.table.entries g.P.R.Bits.WIDTH root.at.depth root.at.path root.place root.prefix_len root.at.map.table.spelled.width root.at.kept root.stands root.within in
    let found = found_view g.P.R.Bits.WIDTH (seen_in root.at.map.table.entries root.place root.prefix_len) place (λ v. seen_in v.at.map.table.entries v.place v.prefix_len) c.find.result key (no_bits_left root.prefix_len root.place c.new_root.ensures.length) c.find.ensures in
    let view = subst (λ n. IsViewOf (λ v. seen_in v.at.map.table.entries v.place v.prefix_len) n c.find.result key) (ap (λ a. a.table.entries) c.new_root.ensures.map) found in
    c.new.ensures ∙ walked_below (λ v. seen_in v.at.map.table.entries v.place v.prefix_len) m c.find.result key view
