use Rattle.std.proofs.Common.{take, ap, ◌∙◌}
use Rattle.prefix_map.proofs.ItemLaws.{item_itself}
use Rattle.prefix_map.proofs.items.bare.Goals as goal

pub returns-clause-key : goal.returns-clause-key
returns-clause-key g c = c.prefix_of.ensures.item.key_is ∙ ap (λ n. take n (g.P.R.Bits.bits c.repr.result)) (c.from.ensures ∙ c.prefix_len.ensures) ∙ c.repr.ensures.key

pub returns-clause-itself : goal.returns-clause-itself
returns-clause-itself g c = item_itself g.P.R.Bits.WIDTH g.P.PrefixKey c.prefix_of.result _ c.prefix_of.ensures.item
