use Rattle.std.proofs.Common.{◌∙◌, sym, arith}
use Rattle.prefix_model.proofs.KeyLists.{front_tested, longer_tested}
use Rattle.prefix_table.proofs.prefixes.Prefix.contains.Goals as goal

pub returns-then-prefix_len : goal.returns-then-prefix_len
returns-then-prefix_len g c =
    let whole = g.met.Self.R.Bits.length_law c.repr.result in
    let own = c.prefix_len.ensures in
    let other = c.prefix_len-2.ensures in
    front_tested c.same_front.result _ _ _ _ _ _ c.from.result (sym c.repr.ensures.key) (sym c.repr-then-prefix_len.ensures.key)
    (c.from.ensures ∙ c.prefix_len-then-prefix_len.ensures) (omega (arith, own, other, c.if-prefix_len.true)) (omega (arith, whole, c.requires.own)) c.same_front.ensures

pub returns-else-prefix_len : goal.returns-else-prefix_len
returns-else-prefix_len g c =
    let whole = g.met.Self.Prefix.length_law c.args.self.now in
    longer_tested _ _ _ _ _ _ _ _ (g.met.Self.Prefix.key_law c.args.self.now) (g.met.Self.Prefix.key_law c.args.other.now) (omega (arith, whole, c.requires.own))
    c.prefix_len.ensures c.prefix_len-2.ensures c.if-prefix_len.false
