use Rattle.std.proofs.Common.{◌≡◌, Ok, Err, subst, sym}
use Rattle.prefix_layout.specs.declared.error.ArchiveError.TheVariants.{DataIndexOverflow}
use Rattle.prefix_app.specs.Endings.{EndsIn}
use Rattle.prefix_app.specs.Outcome.{writes}
use Rattle.prefix_app.specs.declared.ending.Ending.TheVariants.{Archive}
use Rattle.prefix_app.proofs.OutcomeLaws.{Tells, tells, second_fails, first_fails, first_long_second_whole, first_long_second_fails}
use Rattle.prefix_app.proofs.tables.write.Goals as goal

pub returns-in-Ok : goal.returns-in-Ok
returns-in-Ok c =
    let m = c.args.first.now.entries in
    let n = c.args.second.now.entries in
    let e = c.in-Ok.ensures in
    let f = c.in-Err-rest.ensures in
    second_fails m n (tells m (Ok c.in-Ok.bytes) e.archive e.nodes e.values e.causes) (tells n (Err c.in-Err-rest.error) f.archive f.nodes f.values f.causes)

pub returns-in-Ok-rest-2 : goal.returns-in-Ok-rest-2
returns-in-Ok-rest-2 c =
    let m = c.args.first.now.entries in
    let n = c.args.second.now.entries in
    let e = c.in-Err.ensures in
    let f = c.in-Ok-rest-2.ensures in
    let same : c.in-Err.error ≡ DataIndexOverflow = c.is_for_entries.ensures.0 c.if-is_for_entries.true in
    let first = subst (λ x. Tells m (Err x)) same (tells m (Err c.in-Err.error) e.archive e.nodes e.values e.causes) in
    subst (λ x. EndsIn (writes m n) (Archive x)) (sym same) (first_long_second_whole m n first (tells n (Ok c.in-Ok-rest-2.field-0) f.archive f.nodes f.values f.causes))

pub returns-then-is_for_entries : goal.returns-then-is_for_entries
returns-then-is_for_entries c =
    let m = c.args.first.now.entries in
    let n = c.args.second.now.entries in
    let e = c.in-Err.ensures in
    let f = c.in-Err-rest-2.ensures in
    let same : c.in-Err.error ≡ DataIndexOverflow = c.is_for_entries.ensures.0 c.if-is_for_entries.true in
    let first = subst (λ x. Tells m (Err x)) same (tells m (Err c.in-Err.error) e.archive e.nodes e.values e.causes) in
    first_long_second_fails m n first (tells n (Err c.in-Err-rest-2.other) f.archive f.nodes f.values f.causes)

pub returns : goal.returns
returns c =
    let m = c.args.first.now.entries in
    let n = c.args.second.now.entries in
    let e = c.in-Err.ensures in
    first_fails m n (tells m (Err c.in-Err.error) e.archive e.nodes e.values e.causes) (λ h. let k = c.is_for_entries.ensures.1 h in let l = c.if-is_for_entries.false in cc)
