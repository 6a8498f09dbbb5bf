use Rattle.std.proofs.Common.{◌≡◌, true, take, sym, ap, ◌∙◌, arith}
use Rattle.prefix_model.specs.Walks.{walk_from, walk_rest}
use Rattle.prefix_model.proofs.KeyLists.{take_take}
use Rattle.prefix_model.proofs.WalkSplits.{walk_is}
use Rattle.prefix_map.proofs.map.PrefixMap.children_mut.Goals as goal

pub returns-clause-left : goal.returns-clause-left
returns-clause-left g c =
    let m = c.args.self.now.entries in
    let prefix = c.args.prefix.now in
    let key = g.P.PrefixKey.key prefix in
    let len = g.P.PrefixKey.prefix_len prefix in
    let is = g.met.P.PrefixBits.key_law prefix in
    let whole : take len key ≡ key = ap (take len) is ∙ take_take (g.P.PrefixKey.bits prefix) len len (omega arith) ∙ sym is in
    (λ i. walk_rest m (c.new.ensures.last i) (c.new.ensures.within i) (c.new.ensures.inclusive i))
    ∙ ap (λ n. walk_from m (take n key) key true) (c.from.ensures ∙ c.prefix_len.ensures) ∙ ap (λ x. walk_from m x key true) whole ∙ walk_is m key
