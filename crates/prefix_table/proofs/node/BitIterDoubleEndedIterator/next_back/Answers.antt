use Rattle.std.proofs.Common.{sym, ◌∙◌, rules}
use Rattle.prefix_model.proofs.Bitmaps.SetBits.{set_bits-zero, highest_taken, goes_last}
use Rattle.prefix_table.proofs.node.BitIterDoubleEndedIterator.next_back.Goals as goal

pub returns-then-self-eq0-clause-steps : goal.returns-then-self-eq0-clause-steps
returns-then-self-eq0-clause-steps c = let e = sym c.self.view_is ∙ set_bits-zero c.self.inside.bits c.if-self-eq0.true in (e, e)

pub returns-clause-steps : goal.returns-clause-steps
returns-clause-steps c = sym c.self.view_is ∙ highest_taken c.self.inside.bits (search rules) c.if-self-eq0.false

pub returns-clause-goes : goal.returns-clause-goes
returns-clause-goes c =
    let less = goes_last _ _ _ (sym c.self.view_is ∙ highest_taken c.self.inside.bits (search rules) c.if-self-eq0.false) in
    record { on = λ _. (tt, tt, less); keeps = tt; rests = λ _. tt }
