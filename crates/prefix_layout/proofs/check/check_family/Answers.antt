use Rattle.std.proofs.Common.{subst, arith, Ok, Err}
use Rattle.prefix_layout.specs.Spans.{AnswersCheck}
use Rattle.prefix_layout.proofs.Told.{told}
use Rattle.prefix_layout.proofs.check.check_family.Goals as goal

pub returns-in-Ok : goal.returns-in-Ok
returns-in-Ok g c =
    let codec = g.T.ValueCodec.codec in
    let answer : AnswersCheck codec c.args.width c.args.bytes.now (Ok c.in-Ok.span) = subst (AnswersCheck codec c.args.width c.args.bytes.now) c.in-Ok.is c.test_family.ensures in
    record { exact = answer; spelling = told codec g.met.T.ValueCodec.lawful c.args.width c.args.bytes.now (λ i. omega (arith, c.type_inv.bytes i)) (Ok c.in-Ok.span) answer }

pub returns-in-Err : goal.returns-in-Err
returns-in-Err g c =
    let codec = g.T.ValueCodec.codec in
    let answer : AnswersCheck codec c.args.width c.args.bytes.now (Err c.in-Err.cause) = subst (AnswersCheck codec c.args.width c.args.bytes.now) c.in-Err.is c.test_family.ensures in
    record {
      exact = (c.in-Err.cause, c.from.ensures, answer);
      spelling = told codec g.met.T.ValueCodec.lawful c.args.width c.args.bytes.now (λ i. omega (arith, c.type_inv.bytes i)) (Err c.in-Err.cause) answer;
    }
