use Rattle.std.proofs.Common.{◌≡◌, ap, length, subst, ◌∙◌}
use Rattle.std.specs.Prelude.{IfOk}
use Rattle.std.specs.FinMap.{len}
use Rattle.prefix_text.specs.Texts.{generated_text}
use Rattle.prefix_app.specs.Outcome.{archive}
use Rattle.prefix_app.proofs.GenerateLaws.{sizes_same, written_is}
use Rattle.prefix_app.proofs.generate.line_of_sizes.Goals as goal

pub returns : goal.returns
returns c =
    let m = c.args.first.entries in
    let n = c.args.second.entries in
    let f = c.in_default.ensures in
    let g = c.in_default-aggregate_second.ensures in
    let before = c.len-bytes_before.ensures ∙ c.in-Ok.bytes.ok.0 ∙ ap length (written_is m n _ c.in-Ok.ensures) in
    let after = c.len-bytes_after.ensures ∙ c.in-Ok-write.bytes.ok.0 ∙ ap length (written_is _ _ _ c.in-Ok-write.ensures) in
    subst (λ s. IfOk c.line_of.result (λ text. text.items ≡ generated_text s))
    (sizes_same m n _ _ _ _ _ _ c.len-first_before.ensures c.len-second_before.ensures (c.len-first_after.ensures ∙ ap len f) (c.len-second_after.ensures ∙ ap len g)
    before (after ∙ (λ i. length (archive (f i) (g i)))))
    c.line_of.ensures
