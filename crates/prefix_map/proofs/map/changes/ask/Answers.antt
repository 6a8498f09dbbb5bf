use Rattle.std.proofs.Common.{subst, arith}
use Rattle.prefix_model.specs.TableViews.{key_of}
use Rattle.prefix_map.specs.Items.{IsItem}
use Rattle.prefix_map.proofs.map.changes.ask.Goals as goal

pub returns-clause-asked : goal.returns-clause-asked
returns-clause-asked g c =
    let least = c.min.ensures in
    let width = c.WIDTH.ensures in
    (_, (λ fits. subst (λ n. IsItem g.P.R.Bits.WIDTH g.P.PrefixKey c.prefix_of-prefix.result (key_of (g.P.R.Bits.bits c.args.key) n)) (omega (arith, least, width, fits)) c.prefix_of-prefix.ensures.item), c.f.ensures)
