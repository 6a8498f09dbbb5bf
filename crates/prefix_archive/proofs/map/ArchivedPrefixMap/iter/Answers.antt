use Rattle.std.proofs.Common.{true, ap, ◌∙◌}
use Rattle.prefix_model.specs.Walks.{begins_with, walk_from}
use Rattle.prefix_model.proofs.Walking.SortedWalks.{walk_all}
use Rattle.prefix_archive.proofs.Views.{no_bits_left}
use Rattle.prefix_archive.proofs.map.ArchivedPrefixMap.iter.Goals as goal

pub new-requires-clause-inside : goal.new-requires-clause-inside
new-requires-clause-inside g c =
    let root = c.new_root.result in
    ap (λ p. begins_with p (g.P.PrefixKey.key c.from_repr_len-first.result)) (no_bits_left root.prefix_len root.place c.new_root.ensures.length)

pub returns : goal.returns
returns g c =
    let root = c.new_root.result in
    let same = ap (λ a. a.table.entries) c.new_root.ensures.map in
    let none = no_bits_left root.prefix_len root.place c.new_root.ensures.length in
    let key = c.from_repr_len-first.ensures.key in
    c.new.ensures ∙ (λ i. walk_from (same i) (none i) (key i) true) ∙ walk_all c.args.self.now.table.entries
