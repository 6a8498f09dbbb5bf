use Rattle.std.proofs.Common.{sym, ◌∙◌}
use Rattle.prefix_map.proofs.EqualityLaws.{told_first, told_second}
use Rattle.prefix_map.proofs.map.build.is_same.Goals as goal

pub returns-then-contains : goal.returns-then-contains
returns-then-contains g c = told_second c.contains-then-contains.result (g.P.PrefixKey.key c.args.a.now) (g.P.PrefixKey.key c.args.b.now) c.contains-then-contains.ensures (sym c.contains.ensures ∙ c.if-contains.true)

pub returns-else-contains : goal.returns-else-contains
returns-else-contains g c = told_first c.contains.result (g.P.PrefixKey.key c.args.a.now) (g.P.PrefixKey.key c.args.b.now) c.contains.ensures c.if-contains.false
