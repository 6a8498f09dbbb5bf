use Rattle.std.proofs.Common.{◌≡◌, ◌+◌, ◌-◌, ◌≤◌, vec_len}
use Rattle.prefix_app.specs.Compacted.{max_input}
use Rattle.prefix_app.specs.Told.{TakesThen}
use Rattle.prefix_app.proofs.input.read_all.Given as goal

abbrev pub invariant-loop-all : goal.invariant-loop-all
invariant-loop-all g l = record {
  taken : TakesThen (g.S.Source.left l.fn.input) (g.S.Source.left l.input) (λ taken _. l.all.items ≡ taken);
  within : vec_len l.all ≤ max_input;
  buffer : vec_len l.buf ≡ 65536;
  faults : g.S.Source.faults l.input ≡ g.S.Source.faults l.fn.input;
}

abbrev pub decreases-loop-all : goal.decreases-loop-all
decreases-loop-all g l = max_input + 1 - vec_len l.all
