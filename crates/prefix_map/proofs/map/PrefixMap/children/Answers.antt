use Rattle.std.proofs.Common.{◌≡◌, true, take, sym, ap, ◌∙◌, arith}
use Rattle.prefix_model.specs.Walks.{walk_from}
use Rattle.prefix_model.proofs.KeyLists.{take_take}
use Rattle.prefix_model.proofs.WalkSplits.{walk_is}
use Rattle.prefix_map.proofs.map.PrefixMap.children.Goals as goal

pub returns : goal.returns
returns g c =
    let m = c.args.self.now.entries in
    let prefix = c.args.prefix.now in
    let key = g.P.PrefixKey.key prefix in
    let bits = g.P.PrefixKey.bits prefix in
    let len = g.P.PrefixKey.prefix_len prefix in
    let is = g.met.P.PrefixBits.key_law prefix in
    let whole : take len key ≡ key = ap (take len) is ∙ take_take bits len len (omega arith) ∙ sym is in
    c.new.ensures.rest ∙ ap (λ n. walk_from m (take n key) key true) (c.from.ensures ∙ c.prefix_len.ensures) ∙ ap (λ x. walk_from m x key true) whole ∙ walk_is m key
