use Rattle.std.proofs.Common.{◌++◌, ◌∷◌, [], true, false, sym, subst}
use Rattle.prefix_archive.specs.Coverage.{IsViewOf}
use Rattle.prefix_archive.proofs.CoverageLaws.{stepped_view}
use Rattle.prefix_archive.proofs.coverage.half.Goals as goal

pub returns-then-bit : goal.returns-then-bit
returns-then-bit g c =
    let v = g.V.TrieView.seen c.args.view in
    subst (λ b. IsViewOf g.V.TrieView.seen v.entries c.right.result (v.place ++ b ∷ [])) (sym c.if-bit.true)
    (stepped_view _ v (g.met.V.TrieView.place_law c.args.view) g.V.TrieView.seen c.right.result true c.right.ensures)

pub returns-else-bit : goal.returns-else-bit
returns-else-bit g c =
    let v = g.V.TrieView.seen c.args.view in
    subst (λ b. IsViewOf g.V.TrieView.seen v.entries c.left.result (v.place ++ b ∷ [])) (sym c.if-bit.false)
    (stepped_view _ v (g.met.V.TrieView.place_law c.args.view) g.V.TrieView.seen c.left.result false c.left.ensures)
