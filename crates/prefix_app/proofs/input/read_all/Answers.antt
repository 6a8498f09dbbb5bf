use Rattle.std.proofs.Common.{◌++◌, ℕ, List, Err, arith, refl, ◌∙◌, ap, sym}
use Rattle.prefix_app.proofs.TakeLaws.{takes_none, takes_join, takes_whole, counts_join, ok_is_no_error, error_is, err_same}
use Rattle.prefix_app.proofs.input.read_all.Goals as goal

pub loop-all-init : goal.loop-all-init
loop-all-init g c = record {
  taken = rw (c.new-all.ensures.items) (takes_none (g.S.Source.left c.args.input.now));
  within = omega (arith, c.new-all.ensures.len);
  buffer = c.in_ok-buf.ensures;
  faults = refl;
}

pub returns-in_err-read_piece-clause-taken : goal.returns-in_err-read_piece-clause-taken
returns-in_err-read_piece-clause-taken g c =
    let e = error_is c.from_residual-in_err-read_piece.result c.from_residual-in_err-read_piece.ensures.1 in
    takes_join (g.S.Source.left c.args.input.now) (g.S.Source.left c.loop-all.input) (g.S.Source.left c.read_piece.new.input) _ _ _ c.loop-all.invariant.taken (c.in_err-read_piece.ensures.taken)
    (λ t u r s p q. counts_join c.loop-all.all.items t u c.loop-all.all.len 1073741825 _ _ c.loop-all.all.ok.0 p (λ a. ap Err (err_same (sym e ∙ a))) (λ b. e ∙ ap Err (err_same b)) q.0 q.1)

pub returns-then-not-branch-clause-whole : goal.returns-then-not-branch-clause-whole
returns-then-not-branch-clause-whole g c =
    let e = (c.in_ok-read_piece.ensures).end c.if-not-branch.true in
    rw (e.0) (takes_whole (g.S.Source.left c.args.input.now) (g.S.Source.left c.loop-all.input) (g.S.Source.left c.read_piece.new.input) c.loop-all.all.items c.loop-all.invariant.taken e.1)

pub returns-then-not-branch-clause-taken : goal.returns-then-not-branch-clause-taken
returns-then-not-branch-clause-taken g c =
    takes_join (g.S.Source.left c.args.input.now) (g.S.Source.left c.loop-all.input) (g.S.Source.left c.read_piece.new.input) _ _ _ c.loop-all.invariant.taken (c.in_ok-read_piece.ensures.taken)
    (λ t u r s p q. counts_join c.loop-all.all.items t u c.loop-all.all.len 1073741825 _ _ c.loop-all.all.ok.0 p (λ a. absurd (ok_is_no_error a)) (λ b. absurd (ok_is_no_error b)) q.0 q.1)

pub returns-then-not-branch-clause-bytes : goal.returns-then-not-branch-clause-bytes
returns-then-not-branch-clause-bytes g c = c.in_ok-read_piece.ensures.bytes

pub loop-all-preserved : goal.loop-all-preserved
loop-all-preserved g c =
    let e = c.in_ok-read_piece.ensures in
    record {
      taken = takes_join (g.S.Source.left c.args.input.now) (g.S.Source.left c.loop-all.input) (g.S.Source.left c.read_piece.new.input) _ _ _ c.loop-all.invariant.taken e.taken
          (λ t u r s p q. ◌∙◌ {A = List ℕ} q.2 (ap (λ (x : List ℕ). x ++ u) p));
      within = (e.more c.if-not-branch.false).1;
      buffer = c.loop-all.invariant.buffer;
      faults = ◌∙◌ {A = ℕ} e.kept c.loop-all.invariant.faults;
    }
