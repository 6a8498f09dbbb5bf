use Rattle.std.proofs.Common.{◌+◌, ◌-◌, ◌∙◌, true, sym, ap, arith}
use Rattle.std.specs.Prelude.{slice_set}
use Rattle.std.proofs.lemmas.Nat.Bits.{shr_and_one}
use Rattle.prefix_table.proofs.NodeKeys.{pushed_set, pushed_clear, all_pushed, none_pushed}
use Rattle.prefix_table.proofs.keys.Bits.with_number.Goals as goal
use Rattle.prefix_table.proofs.keys.Bits.with_number.Goals.{then-number-count-eq1, else-number-count-eq1}

pub loop-i-init : goal.loop-i-init
loop-i-init g c = c.keep-made.ensures ∙ none_pushed (g.Self.Bits.bits c.args.self) g.Self.Bits.WIDTH c.args.len _

pub loop-i-preserved : goal.loop-i-preserved
loop-i-preserved g c =
    let whole = g.met.Self.Bits.length_law c.args.self in
    elim c.if-number-count-eq1.branch [
      | then-number-count-eq1 w ↦
          ap g.Self.Bits.bits w.made-is ∙ w.with_bit-made.ensures ∙ ap (λ b. slice_set b (c.args.len + c.loop-i.i) true) c.loop-i.invariant
          ∙ pushed_set (g.Self.Bits.bits c.args.self) g.Self.Bits.WIDTH c.args.len c.args.number c.args.count c.loop-i.i c.loop-i-test.true c.requires.within (omega (arith, whole)) (sym (shr_and_one c.args.number (c.args.count - 1 - c.loop-i.i)) ∙ w.if-number-count-eq1.true)
      | else-number-count-eq1 w ↦
          ap g.Self.Bits.bits w.made-is ∙ c.loop-i.invariant
          ∙ pushed_clear (g.Self.Bits.bits c.args.self) g.Self.Bits.WIDTH c.args.len c.args.number c.args.count c.loop-i.i c.loop-i-test.true c.requires.within (λ e. w.if-number-count-eq1.false (shr_and_one c.args.number (c.args.count - 1 - c.loop-i.i) ∙ e))
    ]

pub returns : goal.returns
returns g c = c.loop-i.invariant ∙ all_pushed (g.Self.Bits.bits c.args.self) g.Self.Bits.WIDTH c.args.len c.args.number c.args.count c.loop-i.i (omega arith)
