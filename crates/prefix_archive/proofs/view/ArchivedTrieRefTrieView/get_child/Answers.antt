use Rattle.std.proofs.Common.{◌≡◌, ◌++◌, ◌<◌, ◌≤◌, ◌^◌, ap, sym, ◌∙◌, subst}
use Rattle.prefix_model.specs.Keys.{low_bits}
use Rattle.prefix_model.specs.Positions.{position_set}
use Rattle.prefix_model.proofs.Viewing.ViewBits.{child_limit}
use Rattle.prefix_archive.specs.ArchivedViews.{seen_in}
use Rattle.prefix_archive.proofs.Views.{child_of_node, at_node}
use Rattle.prefix_archive.proofs.view.ArchivedTrieRefTrieView.get_child.Goals as goal

pub child-at-requires-clause-place : goal.child-at-requires-clause-place
child-at-requires-clause-place g c = let self = c.args.self.now in child_limit (seen_in self.at.map.table.entries self.place self.prefix_len) c.args.child_bit c.requires

pub child-at-requires-clause-set : goal.child-at-requires-clause-set
child-at-requires-clause-set g c =
    let self = c.args.self.now in
    child_of_node self.at.map.table.entries self.place self.prefix_len (low_bits self.at.depth self.at.path) self.stands c.args.child_bit c.requires

pub invariant_of-result : goal.invariant_of-result
invariant_of-result g c =
    let child = c.child-at.result in
    record {
      stands = at_node child.map.table.entries child.depth child.path c.path.result c.depth.result child.kept c.path.ensures c.depth.ensures;
      small = subst (λ n. n < 2 ^ c.depth.result) (sym c.path.ensures) (subst (λ n. child.path < 2 ^ n) (sym c.depth.ensures) child.small);
      within = subst (λ n. n ≤ g.P.R.Bits.WIDTH) (sym c.depth.ensures) child.within;
    }

pub returns : goal.returns
returns g c =
    let self = c.args.self.now in
    let child = c.child-at.result in
    let same : child.map.table.entries ≡ self.at.map.table.entries = ap (λ m. m.table.entries) c.child-at.ensures.map in
    let place : low_bits c.depth.result c.path.result ≡ low_bits child.depth child.path = λ i. low_bits (c.depth.ensures i) (c.path.ensures i) in
    let below = place ∙ c.child-at.ensures.position ∙ ap (λ p. p ++ low_bits 5 c.args.child_bit) self.stands in
    λ i. record { entries = same i; kept = position_set (same i); place = below i }
