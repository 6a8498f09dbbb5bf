use Rattle.std.proofs.Common.{◌≡◌, ◌++◌, ℕ, List, length, sym, ap, ◌∙◌, subst}
use Rattle.std.specs.List.{flat_map}
use Rattle.std.specs.FinMap as map
use Rattle.prefix_model.specs.Positions.{positions_in, records}
use Rattle.prefix_model.specs.Spelling.{word, record_bytes}
use Rattle.prefix_layout.specs.Writing.{Appends, node_values, is_written}
use Rattle.prefix_layout.proofs.Writing.{append_then, spelling_parts}
use Rattle.prefix_layout.proofs.Queue.{queue_length}
use Rattle.prefix_layout.proofs.write.write_all.Goals as goal

pub returns : goal.returns
returns g c =
    let codec = g.T.ValueCodec.codec in
    let view = c.args.table.now in
    let m = view.entries in
    let ps = positions_in m in
    let old = c.args.out.now.items in
    let last = c.write_values.new.out.items in
    let values = flat_map (node_values codec (map.get m)) ps in
    let nodes = flat_map record_bytes (records (map.get m) (is_written view) 0 1 ps) in
    let first : c.write_word.new.out.items ≡ old ++ word (length ps) = c.in_ok-write_word.ensures ∙ (λ j. c.reserve.ensures.items j ++ word (queue_length view (is_written view) ps c.args.queue.now c.requires.queue j)) in
    let second : c.write_word-2.new.out.items ≡ c.write_word.new.out.items ++ word (map.len m) = c.in_ok-write_word-2.ensures ∙ ap (λ (n : ℕ). c.write_word.new.out.items ++ word n) c.len-2.ensures.count in
    subst (λ (bytes : List ℕ). Appends old last bytes c.write_values.result) (sym (spelling_parts codec m))
    (append_then c.write_values.result old c.write_word.new.out.items last (word (length ps)) (word (map.len m) ++ (nodes ++ values)) first
    (append_then c.write_values.result c.write_word.new.out.items c.write_word-2.new.out.items last (word (map.len m)) (nodes ++ values) second
    (append_then c.write_values.result c.write_word-2.new.out.items c.write_records.new.out.items last nodes values c.in_ok-write_records.ensures c.write_values.ensures)))
