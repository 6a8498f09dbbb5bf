use Rattle.std.proofs.Common.{◌≡◌, ◌+◌, ◌*◌, ◌≤◌, [], ◌∷◌, false}
use Rattle.prefix_model.specs.FirstCause.{check_records, read_records}
use Rattle.prefix_model.proofs.Archive.Linear.{check_from}
use Rattle.prefix_layout.proofs.check.check_nodes.Given as goal

abbrev pub invariant-loop-i : goal.invariant-loop-i
invariant-loop-i g l = record {
  within : l.i ≤ l.level_end;
  ends : l.level_end ≤ l.known;
  depth : l.depth ≤ l.width;
  marks : l.entries ≤ 32 * l.i;
  known : l.known ≤ 1 + 32 * l.i;
  steps : l.steps ≤ l.initial.steps + l.i;
  same : check_from l.width l.nodes l.records.bytes.now l.depth l.i l.level_end l.entries l.known ≡ check_records l.width false (0 ∷ []) 0 1 (read_records l.nodes l.fn.bytes);
}
