use Rattle.std.proofs.Common.{[], length, ◌≤◌, sym, ap, ◌∙◌, subst}
use Rattle.std.specs.FinMap as map
use Rattle.prefix_model.specs.Keys.{KeyBits}
use Rattle.prefix_model.specs.Walks.{IsMatchUnder}
use Rattle.prefix_map.proofs.ItemLaws.{item_itself}
use Rattle.prefix_map.proofs.map.PrefixMap.get_lpm.Goals as goal

pub returns-clause-longest : goal.returns-clause-longest
returns-clause-longest g c =
    let m = c.args.self.now.entries in
    let k = g.P.PrefixKey.key c.args.prefix.now in
    subst (λ (q : KeyBits). IsMatchUnder m [] k q × ((j : KeyBits) → IsMatchUnder m [] k j → length j ≤ length q)) (sym c.prefix_of.ensures.item.key_is) c.in_ok-found.ensures.longest

pub returns-clause-value : goal.returns-clause-value
returns-clause-value g c = ap (map.get c.args.self.now.entries) c.prefix_of.ensures.item.key_is ∙ c.in_ok-found.ensures.value

pub returns-clause-item : goal.returns-clause-item
returns-clause-item g c = item_itself g.P.R.Bits.WIDTH g.P.PrefixKey c.prefix_of.result _ c.prefix_of.ensures.item
