use Rattle.std.proofs.Common.{◌≡◌, ℕ, ◌+◌, ◌*◌, ◌^◌, ◌<◌, ◌≤◌, ltb, drop, false, [], ◌∷◌, sym, ap, ◌∙◌, arith, Result}
use lib.Count.{ones, ones-le}
use Rattle.std.proofs.lemmas.Result.{err_from_is_err_and}
use Rattle.prefix_model.specs.declared.Cause.{Cause}
use Rattle.prefix_model.specs.Positions.{NodeRecord}
use Rattle.prefix_model.specs.Spelling.{IsBytes}
use Rattle.prefix_model.specs.FirstCause.{check_record, check_records, read_records}
use Rattle.prefix_model.proofs.Archive.Numbers.{IsBytes-drop, first_word-lt}
use Rattle.prefix_model.proofs.Archive.Linear.{check_from, check_start, record_of, check_too_long, check_too_short}
use Rattle.prefix_layout.proofs.Steps.{Levelled, same_level, level_below, refused_record, passed_record}
use Rattle.prefix_layout.proofs.check.check_nodes.Goals as goal
use Rattle.prefix_layout.proofs.check.check_nodes.Goals.{then-from-level_end, else-from-level_end}

pub returns-then-from-known-clause-cause : goal.returns-then-from-known-clause-cause
returns-then-from-known-clause-cause g c =
    let l = c.loop-i in
    sym (check_too_long c.args.width c.args.nodes c.front_records-records.result.bytes.now l.depth l.i l.level_end l.entries l.known (omega arith) l.invariant.within l.invariant.ends (omega arith)) ∙ l.invariant.same

pub returns-in_err-test_record-clause-cause : goal.returns-in_err-test_record-clause-cause
returns-in_err-test_record-clause-cause g c =
    let l = c.loop-i in
    let w = c.args.width in
    let n = c.args.nodes in
    let bytes = c.front_records-records.result.bytes.now in
    let d = c.if-from-level_end.depth in
    let e = c.if-from-level_end.level_end in
    let whole : Result ℕ Cause = check_records w false (0 ∷ []) 0 1 (read_records n c.args.bytes.now) in
    let levelled : Levelled w n bytes d l.i e l.entries l.known whole = elim c.if-from-level_end.branch [
      | then-from-level_end x ↦ level_below w n bytes l.depth l.i l.level_end l.entries l.known whole l.invariant.same (omega arith) (omega arith) d e x.depth-is x.level_end-is
      | else-from-level_end x ↦ same_level w n bytes l.depth l.i l.level_end l.entries l.known whole l.invariant.same l.invariant.within l.invariant.ends (λ s. x.if-from-level_end.false (c.from-in-loop-i.ensures ∙ s)) d e x.depth-is x.level_end-is
    ] in
    let p = err_from_is_err_and c.from_residual.result c.from_residual.ensures.1 in
    rw (p.1, p.2)
    (refused_record w n bytes d l.i e l.entries l.known whole levelled (omega arith) c.in_err-test_record.field-0.0
    (sym c.in_err-test_record.was ∙ c.test_record.ensures ∙ ap (check_record w (ltb 0 l.i) d l.entries l.known) c.fetch-node.ensures.record))

pub loop-i-preserved : goal.loop-i-preserved
loop-i-preserved g c =
    let l = c.loop-i in
    let w = c.args.width in
    let n = c.args.nodes in
    let bytes = c.front_records-records.result.bytes.now in
    let d = c.if-from-level_end.depth in
    let e = c.if-from-level_end.level_end in
    let r : NodeRecord = record_of bytes l.i in
    let whole : Result ℕ Cause = check_records w false (0 ∷ []) 0 1 (read_records n c.args.bytes.now) in
    let levelled : Levelled w n bytes d l.i e l.entries l.known whole = elim c.if-from-level_end.branch [
      | then-from-level_end x ↦ level_below w n bytes l.depth l.i l.level_end l.entries l.known whole l.invariant.same (omega arith) (omega arith) d e x.depth-is x.level_end-is
      | else-from-level_end x ↦ same_level w n bytes l.depth l.i l.level_end l.entries l.known whole l.invariant.same l.invariant.within l.invariant.ends (λ s. x.if-from-level_end.false (c.from-in-loop-i.ensures ∙ s)) d e x.depth-is x.level_end-is
    ] in
    let fits : IsBytes (drop (16 * l.i) bytes) = IsBytes-drop (16 * l.i) bytes c.front_records-records.ensures.fits in
    let low : r.data_bits < 2 ^ 32 = first_word-lt (drop (16 * l.i) bytes) fits in
    let high : r.child_bits < 2 ^ 32 = first_word-lt (drop 4 (drop (16 * l.i) bytes)) (IsBytes-drop 4 (drop (16 * l.i) bytes) fits) in
    let passed = passed_record w n bytes d l.i e l.entries l.known whole levelled (omega arith) low high
    (sym c.in_ok-test_record.was ∙ c.test_record.ensures ∙ ap (check_record w (ltb 0 l.i) d l.entries l.known) c.fetch-node.ensures.record) in
    let marks : c.from-entries.result ≡ ones r.data_bits = c.from-entries.ensures ∙ ap (λ (x : NodeRecord). ones x.data_bits) c.fetch-node.ensures.record in
    let kids : c.from-known.result ≡ ones r.child_bits = c.from-known.ensures ∙ ap (λ (x : NodeRecord). ones x.child_bits) c.fetch-node.ensures.record in
    let few : ones r.data_bits ≤ 32 = ones-le 32 r.data_bits low in
    let few_kids : ones r.child_bits ≤ 32 = ones-le 32 r.child_bits high in
    let inside = levelled.inside in
    let ends = levelled.ends in
    record {
      within = omega arith;
      ends = omega arith;
      depth = passed.depth;
      marks = omega arith;
      known = omega arith;
      steps = omega (arith, c.fetch-node.ensures.steps);
      same = (λ j. check_from w n bytes d (l.i + 1) e (l.entries + marks j) (l.known + kids j)) ∙ passed.same;
    }

pub returns-then-known-from-clause-cause : goal.returns-then-known-from-clause-cause
returns-then-known-from-clause-cause g c =
    let l = c.loop-i in
    sym (check_too_short c.args.width c.args.nodes c.front_records-records.result.bytes.now l.depth l.i l.level_end l.entries l.known (omega arith) l.invariant.within l.invariant.ends (omega arith)) ∙ l.invariant.same

pub loop-i-init : goal.loop-i-init
loop-i-init g c = record {
  within = omega arith;
  ends = omega arith;
  depth = omega arith;
  marks = omega arith;
  known = omega arith;
  steps = omega arith;
  same = check_start c.args.width c.args.nodes c.front_records-records.result.bytes.now ∙ ap (check_records c.args.width false (0 ∷ []) 0 1) c.front_records-records.ensures.same;
}
