use Rattle.std.proofs.Common.{Some, ◌∙◌}
use Rattle.prefix_map.proofs.ItemLaws.{item_itself}
use Rattle.prefix_map.proofs.map.PrefixMap.get_spm.Goals as goal

pub returns-clause-first : goal.returns-clause-first
returns-clause-first g c = (λ i. Some (c.prefix_of.ensures.item.key_is i, c.in_ok-found.found.value.now)) ∙ c.in_ok-found.ensures.first

pub returns-clause-item : goal.returns-clause-item
returns-clause-item g c = item_itself g.P.R.Bits.WIDTH g.P.PrefixKey c.prefix_of.result _ c.prefix_of.ensures.item
