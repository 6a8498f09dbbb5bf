use Rattle.std.proofs.Common.{◌≡◌, ◌∷◌, ◌++◌, take, drop, ap, ◌∙◌, arith}
use Rattle.prefix_blocks.proofs.store.shift_out.Goals as goal

pub returns : goal.returns
returns g c =
    ap (λ i. take i c.loop-i.cells ++ c.loop-i.carried ∷ drop i c.loop-i.cells) (let e : c.args.place ≡ c.loop-i.i = omega arith in e)
    ∙ c.loop-i.invariant.moved
