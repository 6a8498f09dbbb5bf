use Rattle.std.proofs.Common.{◌≡◌, inl, inr, refl, sym, ap, ◌∙◌, Err, Some}
use Rattle.prefix_text.specs.declared.command.Command.TheVariants.{Compact}
use Rattle.prefix_app.proofs.OutcomeLaws.{given_of}
use Rattle.prefix_app.proofs.RunLaws.{usage_status, complete, reads_none, own_line, line_told, whole_line_told, read_status, no_fault, not_read, not_ending, some_none, some_same, reads_is, read_not_after, tells_too_long, read_has_line, ended_status, ended_line, all_told, where_read, where_appended, output_same, compact_given, done_status, done_output, part_output, no_line, no_line_whole, input_given}
use Rattle.prefix_app.proofs.TakeLaws.{ok_is_no_error, err_same}
use Rattle.prefix_app.specs.Compacted.{IsCompacted, SpellsLeast}
use Rattle.prefix_app.specs.Endings.{ending_line}
use Rattle.prefix_app.specs.Outcome.{reads_input}
use Rattle.prefix_app.specs.Statuses.{line_of}
use Rattle.prefix_app.specs.Told.{AppendsThen}
use Rattle.prefix_app.specs.declared.status.Status.TheVariants.{Done, Usage, ReadFault, WriteFault, TooLong}
use Rattle.prefix_app.proofs.run.run.Goals as goal

pub returns-in-None-clause-status : goal.returns-in-None-clause-status
returns-in-None-clause-status g c =
    usage_status c.args.words.now (g.S.Source.left c.args.input.now) c.tell.result c.tell.ensures.same (sym c.in-None.ensures.exact)

pub returns-in-None-clause-complete : goal.returns-in-None-clause-complete
returns-in-None-clause-complete g c reads writes =
    complete c.args.words.now (g.S.Source.left c.args.input.now) c.tell.result (usage_status c.args.words.now (g.S.Source.left c.args.input.now) c.tell.result c.tell.ensures.same (sym c.in-None.ensures.exact)) (λ e. let k = sym c.tell.ensures.same ∙ e in cc) (λ e. let k = sym c.tell.ensures.same ∙ e in cc)

pub returns-in-None-clause-reads_all : goal.returns-in-None-clause-reads_all
returns-in-None-clause-reads_all g c r after =
    reads_none c.args.words.now c.in-None.ensures.exact r

pub returns-in-None-clause-too_long : goal.returns-in-None-clause-too_long
returns-in-None-clause-too_long g c r =
    reads_none c.args.words.now c.in-None.ensures.exact r

pub returns-in-None-clause-line : goal.returns-in-None-clause-line
returns-in-None-clause-line g c =
    line_told c.args.words.now (g.S.Source.left c.args.input.now) c.tell.result (g.E.Sink.written c.args.errors.now) (g.E.Sink.written c.tell.new.errors) (line_of Usage) (own_line c.args.words.now (g.S.Source.left c.args.input.now) c.tell.result Usage c.tell.ensures.same refl) c.tell.ensures.line

pub returns-in-None-clause-whole_line : goal.returns-in-None-clause-whole_line
returns-in-None-clause-whole_line g c =
    whole_line_told c.args.words.now (g.S.Source.left c.args.input.now) c.tell.result (g.E.Sink.written c.args.errors.now) (g.E.Sink.written c.tell.new.errors) (line_of Usage) (own_line c.args.words.now (g.S.Source.left c.args.input.now) c.tell.result Usage c.tell.ensures.same refl) c.tell.ensures.whole_line

pub returns-in-Err-clause-status : goal.returns-in-Err-clause-status
returns-in-Err-clause-status g c =
    read_status c.args.words.now c.in-Some.command (sym c.in-Some.ensures.exact) (g.S.Source.left c.args.input.now) (g.S.Source.left c.read_input.new.input) c.tell-in-Err.result c.in-Err.status _ c.tell-in-Err.ensures.same c.in-Err.ensures.causes.0 c.in-Err.ensures.causes.1 (λ h. ap Err h) (c.in-Err.ensures.taken c.in-Err.ensures.causes.1)

pub returns-in-Err-clause-complete : goal.returns-in-Err-clause-complete
returns-in-Err-clause-complete g c reads writes =
    complete c.args.words.now (g.S.Source.left c.args.input.now) c.tell-in-Err.result (read_status c.args.words.now c.in-Some.command (sym c.in-Some.ensures.exact) (g.S.Source.left c.args.input.now) (g.S.Source.left c.read_input.new.input) c.tell-in-Err.result c.in-Err.status _ c.tell-in-Err.ensures.same c.in-Err.ensures.causes.0 c.in-Err.ensures.causes.1 (λ h. ap Err h) (c.in-Err.ensures.taken c.in-Err.ensures.causes.1)) (λ e. no_fault (g.S.Source.faults c.args.input.now) (g.S.Source.faults c.read_input.new.input) reads (c.in-Err.ensures.fault (ap Err (sym c.tell-in-Err.ensures.same ∙ e)))) (λ e. not_read WriteFault c.tell-in-Err.ensures.same c.in-Err.ensures.causes.0 e (λ k. cc) (λ k. cc) (λ k. cc))

pub returns-in-Err-clause-usage : goal.returns-in-Err-clause-usage
returns-in-Err-clause-usage g c =
    ((λ e. not_read Usage c.tell-in-Err.ensures.same c.in-Err.ensures.causes.0 e (λ k. cc) (λ k. cc) (λ k. cc)), (λ e. some_none (c.in-Some.ensures.exact ∙ e)))

pub returns-in-Err-clause-reads_nothing : goal.returns-in-Err-clause-reads_nothing
returns-in-Err-clause-reads_nothing g c r =
    c.in-Err.ensures.nothing (sym (reads_is c.args.words.now c.in-Some.command (sym c.in-Some.ensures.exact)) ∙ r)

pub returns-in-Err-clause-reads_all : goal.returns-in-Err-clause-reads_all
returns-in-Err-clause-reads_all g c r after =
    read_not_after c.tell-in-Err.ensures.same c.in-Err.ensures.causes.0 after

pub returns-in-Err-clause-too_long : goal.returns-in-Err-clause-too_long
returns-in-Err-clause-too_long g c r =
    tells_too_long (g.S.Source.left c.args.input.now) (g.S.Source.left c.read_input.new.input) _ _ (λ h. c.tell-in-Err.ensures.same ∙ err_same h) (λ e. ap Err (sym c.tell-in-Err.ensures.same ∙ e)) (c.in-Err.ensures.taken c.in-Err.ensures.causes.1)

pub returns-in-Err-clause-read_fault : goal.returns-in-Err-clause-read_fault
returns-in-Err-clause-read_fault g c e =
    c.in-Err.ensures.fault (ap Err (sym c.tell-in-Err.ensures.same ∙ e))

pub returns-in-Err-clause-line : goal.returns-in-Err-clause-line
returns-in-Err-clause-line g c =
    line_told c.args.words.now (g.S.Source.left c.args.input.now) c.tell-in-Err.result (g.E.Sink.written c.args.errors.now) (g.E.Sink.written c.tell-in-Err.new.errors) (line_of c.in-Err.status) (own_line c.args.words.now (g.S.Source.left c.args.input.now) c.tell-in-Err.result c.in-Err.status c.tell-in-Err.ensures.same (read_has_line c.in-Err.ensures.causes.0)) c.tell-in-Err.ensures.line

pub returns-in-Err-clause-whole_line : goal.returns-in-Err-clause-whole_line
returns-in-Err-clause-whole_line g c =
    whole_line_told c.args.words.now (g.S.Source.left c.args.input.now) c.tell-in-Err.result (g.E.Sink.written c.args.errors.now) (g.E.Sink.written c.tell-in-Err.new.errors) (line_of c.in-Err.status) (own_line c.args.words.now (g.S.Source.left c.args.input.now) c.tell-in-Err.result c.in-Err.status c.tell-in-Err.ensures.same (read_has_line c.in-Err.ensures.causes.0)) c.tell-in-Err.ensures.whole_line

pub returns-in-Err-answer-clause-status : goal.returns-in-Err-answer-clause-status
returns-in-Err-answer-clause-status g c =
    ended_status c.args.words.now c.in-Some.command (sym c.in-Some.ensures.exact) (g.S.Source.left c.args.input.now) (g.S.Source.left c.read_input.new.input) c.deref.result.now (input_given c.in-Some.command (g.S.Source.left c.args.input.now) (g.S.Source.left c.read_input.new.input) c.in-Ok.bytes.items c.deref.result.now c.deref.ensures.value c.in-Ok.ensures.input) c.tell_ending.result c.in-Err-answer.ending c.tell_ending.ensures.same c.in-Err-answer.ensures.made

pub returns-in-Err-answer-clause-complete : goal.returns-in-Err-answer-clause-complete
returns-in-Err-answer-clause-complete g c reads writes =
    complete c.args.words.now (g.S.Source.left c.args.input.now) c.tell_ending.result (ended_status c.args.words.now c.in-Some.command (sym c.in-Some.ensures.exact) (g.S.Source.left c.args.input.now) (g.S.Source.left c.read_input.new.input) c.deref.result.now (input_given c.in-Some.command (g.S.Source.left c.args.input.now) (g.S.Source.left c.read_input.new.input) c.in-Ok.bytes.items c.deref.result.now c.deref.ensures.value c.in-Ok.ensures.input) c.tell_ending.result c.in-Err-answer.ending c.tell_ending.ensures.same c.in-Err-answer.ensures.made) (λ e. not_ending ReadFault c.tell_ending.ensures.causes e (λ k. cc) (λ k. cc) (λ k. cc) (λ k. cc)) (λ e. not_ending WriteFault c.tell_ending.ensures.causes e (λ k. cc) (λ k. cc) (λ k. cc) (λ k. cc))

pub returns-in-Err-answer-clause-usage : goal.returns-in-Err-answer-clause-usage
returns-in-Err-answer-clause-usage g c =
    ((λ e. not_ending Usage c.tell_ending.ensures.causes e (λ k. cc) (λ k. cc) (λ k. cc) (λ k. cc)), (λ e. some_none (c.in-Some.ensures.exact ∙ e)))

pub returns-in-Err-answer-clause-reads_nothing : goal.returns-in-Err-answer-clause-reads_nothing
returns-in-Err-answer-clause-reads_nothing g c r =
    c.in-Ok.ensures.nothing (sym (reads_is c.args.words.now c.in-Some.command (sym c.in-Some.ensures.exact)) ∙ r)

pub returns-in-Err-answer-clause-reads_all : goal.returns-in-Err-answer-clause-reads_all
returns-in-Err-answer-clause-reads_all g c r after =
    all_told c.in-Some.command (g.S.Source.left c.args.input.now) (g.S.Source.left c.read_input.new.input) c.deref.result.now (input_given c.in-Some.command (g.S.Source.left c.args.input.now) (g.S.Source.left c.read_input.new.input) c.in-Ok.bytes.items c.deref.result.now c.deref.ensures.value c.in-Ok.ensures.input) (sym (reads_is c.args.words.now c.in-Some.command (sym c.in-Some.ensures.exact)) ∙ r)

pub returns-in-Err-answer-clause-too_long : goal.returns-in-Err-answer-clause-too_long
returns-in-Err-answer-clause-too_long g c r =
    tells_too_long (g.S.Source.left c.args.input.now) (g.S.Source.left c.read_input.new.input) _ _ (λ h. absurd (ok_is_no_error h)) (λ e. not_ending TooLong c.tell_ending.ensures.causes e (λ k. cc) (λ k. cc) (λ k. cc) (λ k. cc)) (c.in-Ok.ensures.taken (sym (reads_is c.args.words.now c.in-Some.command (sym c.in-Some.ensures.exact)) ∙ r))

pub returns-in-Err-answer-clause-line : goal.returns-in-Err-answer-clause-line
returns-in-Err-answer-clause-line g c =
    line_told c.args.words.now (g.S.Source.left c.args.input.now) c.tell_ending.result (g.E.Sink.written c.args.errors.now) (g.E.Sink.written c.tell_ending.new.errors) (ending_line c.in-Err-answer.ending) (ended_line c.args.words.now c.in-Some.command (sym c.in-Some.ensures.exact) (g.S.Source.left c.args.input.now) (g.S.Source.left c.read_input.new.input) c.deref.result.now (input_given c.in-Some.command (g.S.Source.left c.args.input.now) (g.S.Source.left c.read_input.new.input) c.in-Ok.bytes.items c.deref.result.now c.deref.ensures.value c.in-Ok.ensures.input) c.tell_ending.result c.in-Err-answer.ending c.tell_ending.ensures.same c.in-Err-answer.ensures.made) c.tell_ending.ensures.line

pub returns-in-Err-answer-clause-whole_line : goal.returns-in-Err-answer-clause-whole_line
returns-in-Err-answer-clause-whole_line g c =
    whole_line_told c.args.words.now (g.S.Source.left c.args.input.now) c.tell_ending.result (g.E.Sink.written c.args.errors.now) (g.E.Sink.written c.tell_ending.new.errors) (ending_line c.in-Err-answer.ending) (ended_line c.args.words.now c.in-Some.command (sym c.in-Some.ensures.exact) (g.S.Source.left c.args.input.now) (g.S.Source.left c.read_input.new.input) c.deref.result.now (input_given c.in-Some.command (g.S.Source.left c.args.input.now) (g.S.Source.left c.read_input.new.input) c.in-Ok.bytes.items c.deref.result.now c.deref.ensures.value c.in-Ok.ensures.input) c.tell_ending.result c.in-Err-answer.ending c.tell_ending.ensures.same c.in-Err-answer.ensures.made) c.tell_ending.ensures.whole_line

pub returns-in-Ok-hand_over-clause-done : goal.returns-in-Ok-hand_over-clause-done
returns-in-Ok-hand_over-clause-done g c compact e =
    let same : c.in-Some.command ≡ Compact = (some_same (c.in-Some.ensures.exact ∙ compact_given c.args.words.now compact)) in
    where_read c.in-Some.command (g.S.Source.left c.args.input.now) (g.S.Source.left c.read_input.new.input) c.deref.result.now (λ bytes. AppendsThen (g.O.Sink.written c.args.output.now) (g.O.Sink.written c.hand_over.new.output) (IsCompacted bytes)) (input_given c.in-Some.command (g.S.Source.left c.args.input.now) (g.S.Source.left c.read_input.new.input) c.in-Ok.bytes.items c.deref.result.now c.deref.ensures.value c.in-Ok.ensures.input) (ap reads_input same)
    (λ _. where_appended (g.O.Sink.written c.args.output.now) (g.O.Sink.written c.hand_over.new.output) (λ appended. appended ≡ c.deref-2.result.now) (IsCompacted c.deref.result.now)
    (λ appended f. output_same (IsCompacted c.deref.result.now) c.in-Ok-answer.whole.items c.deref-2.result.now appended c.deref-2.ensures.value f (given_of (c.in-Ok-answer.ensures.compacted same)).fewest) c.in-Ok-hand_over.ensures.whole)

pub returns-in-Ok-hand_over-clause-done_least : goal.returns-in-Ok-hand_over-clause-done_least
returns-in-Ok-hand_over-clause-done_least g c compact e =
    let same : c.in-Some.command ≡ Compact = (some_same (c.in-Some.ensures.exact ∙ compact_given c.args.words.now compact)) in
    where_read c.in-Some.command (g.S.Source.left c.args.input.now) (g.S.Source.left c.read_input.new.input) c.deref.result.now (λ bytes. AppendsThen (g.O.Sink.written c.args.output.now) (g.O.Sink.written c.hand_over.new.output) (SpellsLeast bytes)) (input_given c.in-Some.command (g.S.Source.left c.args.input.now) (g.S.Source.left c.read_input.new.input) c.in-Ok.bytes.items c.deref.result.now c.deref.ensures.value c.in-Ok.ensures.input) (ap reads_input same)
    (λ _. where_appended (g.O.Sink.written c.args.output.now) (g.O.Sink.written c.hand_over.new.output) (λ appended. appended ≡ c.deref-2.result.now) (SpellsLeast c.deref.result.now)
    (λ appended f. output_same (SpellsLeast c.deref.result.now) c.in-Ok-answer.whole.items c.deref-2.result.now appended c.deref-2.ensures.value f (given_of (c.in-Ok-answer.ensures.compacted same)).least) c.in-Ok-hand_over.ensures.whole)

pub returns-in-Ok-hand_over-clause-status : goal.returns-in-Ok-hand_over-clause-status
returns-in-Ok-hand_over-clause-status g c =
    done_status c.args.words.now c.in-Some.command (sym c.in-Some.ensures.exact) (g.S.Source.left c.args.input.now) (g.S.Source.left c.read_input.new.input) c.deref.result.now (input_given c.in-Some.command (g.S.Source.left c.args.input.now) (g.S.Source.left c.read_input.new.input) c.in-Ok.bytes.items c.deref.result.now c.deref.ensures.value c.in-Ok.ensures.input) c.in-Ok-answer.whole.items c.in-Ok-answer.ensures.made

pub returns-in-Ok-hand_over-clause-complete : goal.returns-in-Ok-hand_over-clause-complete
returns-in-Ok-hand_over-clause-complete g c reads writes =
    complete c.args.words.now (g.S.Source.left c.args.input.now) Done (done_status c.args.words.now c.in-Some.command (sym c.in-Some.ensures.exact) (g.S.Source.left c.args.input.now) (g.S.Source.left c.read_input.new.input) c.deref.result.now (input_given c.in-Some.command (g.S.Source.left c.args.input.now) (g.S.Source.left c.read_input.new.input) c.in-Ok.bytes.items c.deref.result.now c.deref.ensures.value c.in-Ok.ensures.input) c.in-Ok-answer.whole.items c.in-Ok-answer.ensures.made) (λ e. cc) (λ e. cc)

pub returns-in-Ok-hand_over-clause-done_output : goal.returns-in-Ok-hand_over-clause-done_output
returns-in-Ok-hand_over-clause-done_output g c e =
    done_output c.args.words.now c.in-Some.command (sym c.in-Some.ensures.exact) (g.S.Source.left c.args.input.now) (g.S.Source.left c.read_input.new.input) c.deref.result.now (input_given c.in-Some.command (g.S.Source.left c.args.input.now) (g.S.Source.left c.read_input.new.input) c.in-Ok.bytes.items c.deref.result.now c.deref.ensures.value c.in-Ok.ensures.input) c.in-Ok-answer.whole.items c.in-Ok-answer.ensures.made c.deref-2.result.now (g.O.Sink.written c.args.output.now) (g.O.Sink.written c.hand_over.new.output) c.deref-2.ensures.value c.in-Ok-hand_over.ensures.whole

pub returns-in-Ok-hand_over-clause-usage : goal.returns-in-Ok-hand_over-clause-usage
returns-in-Ok-hand_over-clause-usage g c =
    ((λ e. cc), (λ e. some_none (c.in-Some.ensures.exact ∙ e)))

pub returns-in-Ok-hand_over-clause-reads_nothing : goal.returns-in-Ok-hand_over-clause-reads_nothing
returns-in-Ok-hand_over-clause-reads_nothing g c r =
    c.in-Ok.ensures.nothing (sym (reads_is c.args.words.now c.in-Some.command (sym c.in-Some.ensures.exact)) ∙ r)

pub returns-in-Ok-hand_over-clause-reads_all : goal.returns-in-Ok-hand_over-clause-reads_all
returns-in-Ok-hand_over-clause-reads_all g c r after =
    all_told c.in-Some.command (g.S.Source.left c.args.input.now) (g.S.Source.left c.read_input.new.input) c.deref.result.now (input_given c.in-Some.command (g.S.Source.left c.args.input.now) (g.S.Source.left c.read_input.new.input) c.in-Ok.bytes.items c.deref.result.now c.deref.ensures.value c.in-Ok.ensures.input) (sym (reads_is c.args.words.now c.in-Some.command (sym c.in-Some.ensures.exact)) ∙ r)

pub returns-in-Ok-hand_over-clause-too_long : goal.returns-in-Ok-hand_over-clause-too_long
returns-in-Ok-hand_over-clause-too_long g c r =
    tells_too_long (g.S.Source.left c.args.input.now) (g.S.Source.left c.read_input.new.input) _ _ (λ h. absurd (ok_is_no_error h)) (λ e. cc) (c.in-Ok.ensures.taken (sym (reads_is c.args.words.now c.in-Some.command (sym c.in-Some.ensures.exact)) ∙ r))

pub returns-in-Ok-hand_over-clause-line : goal.returns-in-Ok-hand_over-clause-line
returns-in-Ok-hand_over-clause-line g c =
    no_line c.args.words.now (g.S.Source.left c.args.input.now) (g.E.Sink.written c.args.errors.now)

pub returns-in-Ok-hand_over-clause-whole_line : goal.returns-in-Ok-hand_over-clause-whole_line
returns-in-Ok-hand_over-clause-whole_line g c =
    inr (no_line_whole c.args.words.now (g.S.Source.left c.args.input.now) (g.E.Sink.written c.args.errors.now))

pub returns-clause-status : goal.returns-clause-status
returns-clause-status g c =
    inl (inr (inl c.tell-in-Err-hand_over.ensures.same))

pub returns-clause-complete : goal.returns-clause-complete
returns-clause-complete g c reads writes =
    complete c.args.words.now (g.S.Source.left c.args.input.now) c.tell-in-Err-hand_over.result (inl (inr (inl c.tell-in-Err-hand_over.ensures.same))) (λ e. let k = sym c.tell-in-Err-hand_over.ensures.same ∙ e in cc) (λ e. no_fault (g.O.Sink.faults c.args.output.now) (g.O.Sink.faults c.hand_over.new.output) writes c.in-Err-hand_over.ensures.fault)

pub returns-clause-write_fault_part : goal.returns-clause-write_fault_part
returns-clause-write_fault_part g c e =
    part_output c.args.words.now c.in-Some.command (sym c.in-Some.ensures.exact) (g.S.Source.left c.args.input.now) (g.S.Source.left c.read_input.new.input) c.deref.result.now (input_given c.in-Some.command (g.S.Source.left c.args.input.now) (g.S.Source.left c.read_input.new.input) c.in-Ok.bytes.items c.deref.result.now c.deref.ensures.value c.in-Ok.ensures.input) c.in-Ok-answer.whole.items c.in-Ok-answer.ensures.made c.deref-2.result.now (g.O.Sink.written c.args.output.now) (g.O.Sink.written c.hand_over.new.output) c.deref-2.ensures.value c.in-Err-hand_over.ensures.part

pub returns-clause-usage : goal.returns-clause-usage
returns-clause-usage g c =
    ((λ e. let k = sym c.tell-in-Err-hand_over.ensures.same ∙ e in cc), (λ e. some_none (c.in-Some.ensures.exact ∙ e)))

pub returns-clause-reads_nothing : goal.returns-clause-reads_nothing
returns-clause-reads_nothing g c r =
    c.in-Ok.ensures.nothing (sym (reads_is c.args.words.now c.in-Some.command (sym c.in-Some.ensures.exact)) ∙ r)

pub returns-clause-reads_all : goal.returns-clause-reads_all
returns-clause-reads_all g c r after =
    all_told c.in-Some.command (g.S.Source.left c.args.input.now) (g.S.Source.left c.read_input.new.input) c.deref.result.now (input_given c.in-Some.command (g.S.Source.left c.args.input.now) (g.S.Source.left c.read_input.new.input) c.in-Ok.bytes.items c.deref.result.now c.deref.ensures.value c.in-Ok.ensures.input) (sym (reads_is c.args.words.now c.in-Some.command (sym c.in-Some.ensures.exact)) ∙ r)

pub returns-clause-too_long : goal.returns-clause-too_long
returns-clause-too_long g c r =
    tells_too_long (g.S.Source.left c.args.input.now) (g.S.Source.left c.read_input.new.input) _ _ (λ h. absurd (ok_is_no_error h)) (λ e. let k = sym c.tell-in-Err-hand_over.ensures.same ∙ e in cc) (c.in-Ok.ensures.taken (sym (reads_is c.args.words.now c.in-Some.command (sym c.in-Some.ensures.exact)) ∙ r))

pub returns-clause-line : goal.returns-clause-line
returns-clause-line g c =
    line_told c.args.words.now (g.S.Source.left c.args.input.now) c.tell-in-Err-hand_over.result (g.E.Sink.written c.args.errors.now) (g.E.Sink.written c.tell-in-Err-hand_over.new.errors) (line_of WriteFault) (own_line c.args.words.now (g.S.Source.left c.args.input.now) c.tell-in-Err-hand_over.result WriteFault c.tell-in-Err-hand_over.ensures.same refl) c.tell-in-Err-hand_over.ensures.line

pub returns-clause-whole_line : goal.returns-clause-whole_line
returns-clause-whole_line g c =
    whole_line_told c.args.words.now (g.S.Source.left c.args.input.now) c.tell-in-Err-hand_over.result (g.E.Sink.written c.args.errors.now) (g.E.Sink.written c.tell-in-Err-hand_over.new.errors) (line_of WriteFault) (own_line c.args.words.now (g.S.Source.left c.args.input.now) c.tell-in-Err-hand_over.result WriteFault c.tell-in-Err-hand_over.ensures.same refl) c.tell-in-Err-hand_over.ensures.whole_line
