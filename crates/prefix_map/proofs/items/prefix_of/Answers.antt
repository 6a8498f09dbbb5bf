use Rattle.prefix_map.proofs.ItemLaws.{made_item}
use Rattle.prefix_map.proofs.items.prefix_of.Goals as goal

pub returns-clause-item : goal.returns-clause-item
returns-clause-item g c = made_item g.P.R.Bits.WIDTH g.P.PrefixKey c.from_repr_len.result (g.P.R.Bits.bits c.args.key) c.args.len (g.met.P.R.Bits.length_law c.args.key) c.requires (c.from_repr_len.ensures.length) c.from_repr_len.ensures.bits c.from_repr_len.ensures.key
