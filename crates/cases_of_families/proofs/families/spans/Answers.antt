use Rattle.std.proofs.Common.{take, drop, sym}
use Rattle.std.proofs.lemmas.List.{take-append-drop}
use Rattle.cases_of_families.proofs.families.spans.Goals as goal

pub family_span-requires : goal.family_span-requires
family_span-requires g c =
    let bytes = c.args.bytes.now in
    let len = c.in_ok-checked.checked.len in
    let found = c.in_ok-checked.ensures.spelling in
    record { width = c.args.width; within = c.requires; front = take len bytes; rest = drop len bytes; table = found.0; spelled = found.1; joined = sym (take-append-drop len bytes) }
