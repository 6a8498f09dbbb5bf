use Rattle.std.proofs.Common.{◌*◌, subst, sym, ap, ◌∙◌, arith}
use Rattle.prefix_model.specs.Spelling.{IsBytes}
use Rattle.prefix_model.specs.FirstCause.{read_records}
use Rattle.prefix_model.proofs.Archive.Numbers.{IsBytes-take}
use Rattle.prefix_layout.proofs.Fronts.{records_in_front}
use Rattle.prefix_layout.proofs.check.front_records.Goals as goal

pub returns-clause-fits : goal.returns-clause-fits
returns-clause-fits c = subst IsBytes (sym c.new.ensures) (IsBytes-take (16 * c.args.nodes) c.args.bytes.now (λ k. omega (arith, c.type_inv.bytes k)))

pub returns-clause-same : goal.returns-clause-same
returns-clause-same c = ap (read_records c.args.nodes) c.new.ensures ∙ records_in_front c.args.nodes c.args.bytes.now
