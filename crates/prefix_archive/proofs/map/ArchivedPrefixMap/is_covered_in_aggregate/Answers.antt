use Rattle.std.proofs.Common.{◌-◌, length, refl, ap, subst, arith, length-take}
use Rattle.prefix_archive.specs.Coverage.{IsViewOf}
use Rattle.prefix_archive.specs.ArchivedViews.{seen_in}
use Rattle.prefix_archive.specs.ViewLaws.{archived_place}
use Rattle.prefix_archive.proofs.Views.{no_bits_left}
use Rattle.prefix_archive.proofs.CoverageLaws.{covered_below, covered_from, found_view}
use Rattle.prefix_archive.proofs.map.ArchivedPrefixMap.is_covered_in_aggregate.Goals as goal

pub returns-then-is_covered : goal.returns-then-is_covered
returns-then-is_covered g c =
    let m = c.args.self.now.table.entries in
    (λ _. covered_below m _ (g.P.PrefixKey.key c.args.prefix.now) (c.is_covered.ensures.0 c.if-is_covered.true), λ _. refl)

pub returns : goal.returns
returns g c =
    let m = c.args.self.now.table.entries in
    let key = g.P.PrefixKey.key c.args.prefix.now in
    let root = c.new_root.result in
    let place = archived_place root.at.map.table.entries g.P.R.Bits.WIDTH root.at.depth root.at.path root.place root.prefix_len root.at.map.table.spelled.width root.at.kept root.stands root.within in
    let found = found_view g.P.R.Bits.WIDTH (seen_in root.at.map.table.entries root.place root.prefix_len) place (λ v. seen_in v.at.map.table.entries v.place v.prefix_len) c.find.result key (no_bits_left root.prefix_len root.place c.new_root.ensures.length) c.find.ensures in
    let view = subst (λ n. IsViewOf (λ v. seen_in v.at.map.table.entries v.place v.prefix_len) n c.find.result key) (ap (λ a. a.table.entries) c.new_root.ensures.map) found in
    let size = length-take (g.P.PrefixKey.prefix_len c.args.prefix.now) (g.P.PrefixKey.bits c.args.prefix.now) in
    let whole = g.met.P.PrefixBits.length_law c.args.prefix.now in
    let is = ap length (g.met.P.PrefixBits.key_law c.args.prefix.now) in
    let fits = c.requires in
    let width = c.WIDTH.ensures in
    let len = c.prefix_len.ensures in
    let from = c.from.ensures in
    covered_from m g.P.R.Bits.WIDTH (c.WIDTH.result - c.from.result) key (λ it. absurd (let t = c.is_covered.ensures.1 it in let f = c.if-is_covered.false in cc)) (omega (arith, size, whole, is, fits, width, len, from)) c.covers.result (c.covers.ensures m key view)
