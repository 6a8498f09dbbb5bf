use Rattle.std.proofs.Common.{◌≡◌, ℕ, ◌-◌, leb, sym, ap, ◌∙◌, arith}
use Rattle.prefix_layout.proofs.Deep.{limit, limit_large, deep_limit, deep_above}
use Rattle.prefix_layout.proofs.check.too_deep.Goals as goal
use Rattle.prefix_layout.proofs.check.too_deep.Goals.{in-0, in-1, in-2, in-3, in_default}

pub returns-then-depth-width : goal.returns-then-depth-width
returns-then-depth-width c = sym (deep_above c.args.width c.args.depth c.args.data_bits c.if-depth-width.true)

pub returns : goal.returns
returns c =
    let room : ℕ = c.args.width - c.args.depth in
    let same : c.match-width-depth.limit ≡ limit room = elim c.match-width-depth.branch [
      | in-0 w ↦ w.limit-is ∙ sym (ap limit w.in-0.is)
      | in-1 w ↦ w.limit-is ∙ sym (ap limit w.in-1.is)
      | in-2 w ↦ w.limit-is ∙ sym (ap limit w.in-2.is)
      | in-3 w ↦ w.limit-is ∙ sym (ap limit w.in-3.is)
      | in_default w ↦ w.limit-is ∙ sym (limit_large room (omega arith))
    ] in
    ap (λ l. leb l c.args.data_bits) same ∙ sym (deep_limit c.args.width c.args.depth c.args.data_bits c.if-depth-width.false)
