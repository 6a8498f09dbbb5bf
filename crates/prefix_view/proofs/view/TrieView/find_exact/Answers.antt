use Rattle.std.proofs.Common.{◌≡◌, ◌∙◌, ap, subst, true, false, take}
use Rattle.std.specs.FinMap.{contains_key}
use Rattle.prefix_model.specs.Walks.{begins_with, node_of}
use Rattle.prefix_view.proofs.KeptPositions.{held_none}
use Rattle.prefix_view.proofs.view.TrieView.find_exact.Goals as goal

pub returns-in-None : goal.returns-in-None
returns-in-None g c =
    let v = g.Self.TrieView.seen c.args.self in
    let key = ap (λ n. take n (g.Self.P.R.Bits.bits c.repr.result)) (c.from.ensures ∙ c.prefix_len.ensures) ∙ c.repr.ensures.key in
    held_none _ v (g.met.Self.TrieView.place_law c.args.self) _ (subst (λ k. begins_with v.place k ≡ true → contains_key v.kept (node_of k) ≡ false) key (c.in-None.ensures))
