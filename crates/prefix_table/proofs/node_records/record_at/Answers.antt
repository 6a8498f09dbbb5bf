use Rattle.std.proofs.Common.{sym, ap, ◌∙◌}
use Rattle.std.proofs.lemmas.List.{drop-drop}
use Rattle.prefix_model.specs.FirstCause.{first_word}
use Rattle.prefix_table.proofs.node_records.record_at.Goals as goal

pub returns : goal.returns
returns c =
    let bytes = c.args.bytes.now in
    let at = c.args.at in
    λ i. record {
      data_bits = c.word_at.ensures i;
      child_bits = (c.word_at-2.ensures ∙ ap first_word (sym (drop-drop 4 at bytes))) i;
      data_index = (c.word_at-3.ensures ∙ ap first_word (sym (drop-drop 8 at bytes))) i;
      child_index = (c.word_at-4.ensures ∙ ap first_word (sym (drop-drop 12 at bytes))) i;
    }
