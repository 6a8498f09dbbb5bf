use Rattle.std.proofs.Common.{◌≡◌, ◌*◌, ◌%◌, ◌-◌, ◌≤◌, length-take, List, ℕ, [], length, take, drop, sym, ap, ◌∙◌, subst, arith, append-nil}
use Rattle.std.specs.List.{flat_map}
use Rattle.std.proofs.lemmas.List.{take_rest}
use Rattle.prefix_model.specs.Spelling.{IsBytes, record_bytes}
use Rattle.prefix_model.proofs.Archive.Numbers.{IsBytes-take, IsBytes-drop}
use Rattle.prefix_model.specs.InPlace.{ValuesIn, records_in, table_records, table_values}
use Rattle.prefix_archive.proofs.Pieces.{same_items}
use Rattle.prefix_archive.proofs.Opening.{Opening, opening, begins, table_from, spelled_again, bytes_of_records}
use Rattle.prefix_archive.proofs.map.ArchivedPrefixMap.over.Goals as goal

pub family_span-span-requires : goal.family_span-span-requires
family_span-span-requires g c = begins g.T.ValueCodec.codec g.P.R.Bits.WIDTH c.args.bytes.now c.requires.0 g.met.P.R.Bits.greatest_width_law c.requires.1

pub slice_bounds-split_at-count : goal.slice_bounds-split_at-count
slice_bounds-split_at-count g c =
    let codec = g.T.ValueCodec.codec in
    let w : ℕ = g.P.R.Bits.WIDTH in
    let bytes = c.args.bytes.now in
    let m = c.requires.0 in
    let s = c.requires.1 in
    let span = c.family_span-span.ensures w bytes [] m s (sym (append-nil bytes)) in
    let n : ℕ = c.family_span-span.result.nodes in
    let e : ℕ = c.family_span-span.result.entries in
    let open_ : Opening codec w bytes m n e = opening codec w bytes m n e s span.nodes span.entries in
    open_.head

pub slice_bounds-split_at-start : goal.slice_bounds-split_at-start
slice_bounds-split_at-start g c =
    let codec = g.T.ValueCodec.codec in
    let w : ℕ = g.P.R.Bits.WIDTH in
    let bytes = c.args.bytes.now in
    let m = c.requires.0 in
    let s = c.requires.1 in
    let span = c.family_span-span.ensures w bytes [] m s (sym (append-nil bytes)) in
    let n : ℕ = c.family_span-span.result.nodes in
    let e : ℕ = c.family_span-span.result.entries in
    let open_ : Opening codec w bytes m n e = opening codec w bytes m n e s span.nodes span.entries in
    open_.head

pub split_at-requires : goal.split_at-requires
split_at-requires g c =
    let codec = g.T.ValueCodec.codec in
    let w : ℕ = g.P.R.Bits.WIDTH in
    let bytes = c.args.bytes.now in
    let m = c.requires.0 in
    let s = c.requires.1 in
    let span = c.family_span-span.ensures w bytes [] m s (sym (append-nil bytes)) in
    let n : ℕ = c.family_span-span.result.nodes in
    let e : ℕ = c.family_span-span.result.entries in
    let open_ : Opening codec w bytes m n e = opening codec w bytes m n e s span.nodes span.entries in
    let rest : take (length bytes - 8) (drop 8 bytes) ≡ drop 8 bytes = take_rest bytes 8 in
    subst (λ b. 16 * n ≤ length b) (sym rest) open_.room

pub over-requires : goal.over-requires
over-requires g c =
    let codec = g.T.ValueCodec.codec in
    let w : ℕ = g.P.R.Bits.WIDTH in
    let bytes = c.args.bytes.now in
    let m = c.requires.0 in
    let s = c.requires.1 in
    let span = c.family_span-span.ensures w bytes [] m s (sym (append-nil bytes)) in
    let n : ℕ = c.family_span-span.result.nodes in
    let e : ℕ = c.family_span-span.result.entries in
    let open_ : Opening codec w bytes m n e = opening codec w bytes m n e s span.nodes span.entries in
    let rest : take (length bytes - 8) (drop 8 bytes) ≡ drop 8 bytes = take_rest bytes 8 in
    let front : c.split_at.result.0.now ≡ take (16 * n) (drop 8 bytes) = c.split_at.ensures.front ∙ ap (take (16 * n)) rest in
    let back : c.split_at.result.1.now ≡ drop (16 * n) (drop 8 bytes) = c.split_at.ensures.back ∙ ap (drop (16 * n)) rest in
    subst (ValuesIn codec e) (sym back) open_.values

pub of_parts-requires-clause-table : goal.of_parts-requires-clause-table
of_parts-requires-clause-table g c =
    let codec = g.T.ValueCodec.codec in
    let w : ℕ = g.P.R.Bits.WIDTH in
    let bytes = c.args.bytes.now in
    let m = c.requires.0 in
    let s = c.requires.1 in
    let span = c.family_span-span.ensures w bytes [] m s (sym (append-nil bytes)) in
    let n : ℕ = c.family_span-span.result.nodes in
    let e : ℕ = c.family_span-span.result.entries in
    let open_ : Opening codec w bytes m n e = opening codec w bytes m n e s span.nodes span.entries in
    let rest : take (length bytes - 8) (drop 8 bytes) ≡ drop 8 bytes = take_rest bytes 8 in
    let front : c.split_at.result.0.now ≡ take (16 * n) (drop 8 bytes) = c.split_at.ensures.front ∙ ap (take (16 * n)) rest in
    let back : c.split_at.result.1.now ≡ drop (16 * n) (drop 8 bytes) = c.split_at.ensures.back ∙ ap (drop (16 * n)) rest in
    let records : records_in c.new.result.bytes.now ≡ table_records m = ap records_in (c.new.ensures ∙ front) ∙ open_.records in
    let values : c.over.result.list.items ≡ table_values m = same_items codec g.row.T.coded c.over.result.len e c.over.result.bytes.now (drop (16 * n) (drop 8 bytes)) c.over.ensures.len (c.over.ensures.bytes ∙ back) c.over.result.list open_.values ∙ open_.items_are in
    table_from codec w bytes m s (records_in c.new.result.bytes.now) c.over.result.list.items records values

pub of_parts-requires-clause-whole : goal.of_parts-requires-clause-whole
of_parts-requires-clause-whole g c =
    let codec = g.T.ValueCodec.codec in
    let w : ℕ = g.P.R.Bits.WIDTH in
    let bytes = c.args.bytes.now in
    let m = c.requires.0 in
    let s = c.requires.1 in
    let span = c.family_span-span.ensures w bytes [] m s (sym (append-nil bytes)) in
    let n : ℕ = c.family_span-span.result.nodes in
    let e : ℕ = c.family_span-span.result.entries in
    let open_ : Opening codec w bytes m n e = opening codec w bytes m n e s span.nodes span.entries in
    let rest : take (length bytes - 8) (drop 8 bytes) ≡ drop 8 bytes = take_rest bytes 8 in
    let front : c.split_at.result.0.now ≡ take (16 * n) (drop 8 bytes) = c.split_at.ensures.front ∙ ap (take (16 * n)) rest in
    let back : c.split_at.result.1.now ≡ drop (16 * n) (drop 8 bytes) = c.split_at.ensures.back ∙ ap (drop (16 * n)) rest in
    let records : records_in c.new.result.bytes.now ≡ table_records m = ap records_in (c.new.ensures ∙ front) ∙ open_.records in
    let values : c.over.result.list.items ≡ table_values m = same_items codec g.row.T.coded c.over.result.len e c.over.result.bytes.now (drop (16 * n) (drop 8 bytes)) c.over.ensures.len (c.over.ensures.bytes ∙ back) c.over.result.list open_.values ∙ open_.items_are in
    λ t. (spelled_again codec w bytes m s (records_in c.new.result.bytes.now) c.over.result.list.items records values t).same

pub of_parts-requires-clause-records : goal.of_parts-requires-clause-records
of_parts-requires-clause-records g c =
    let codec = g.T.ValueCodec.codec in
    let w : ℕ = g.P.R.Bits.WIDTH in
    let bytes = c.args.bytes.now in
    let m = c.requires.0 in
    let s = c.requires.1 in
    let span = c.family_span-span.ensures w bytes [] m s (sym (append-nil bytes)) in
    let n : ℕ = c.family_span-span.result.nodes in
    let e : ℕ = c.family_span-span.result.entries in
    let open_ : Opening codec w bytes m n e = opening codec w bytes m n e s span.nodes span.entries in
    let rest : take (length bytes - 8) (drop 8 bytes) ≡ drop 8 bytes = take_rest bytes 8 in
    let front : c.split_at.result.0.now ≡ take (16 * n) (drop 8 bytes) = c.split_at.ensures.front ∙ ap (take (16 * n)) rest in
    let back : c.split_at.result.1.now ≡ drop (16 * n) (drop 8 bytes) = c.split_at.ensures.back ∙ ap (drop (16 * n)) rest in
    let part : List ℕ = take (16 * n) (drop 8 bytes) in
    let fits : IsBytes part = IsBytes-take (16 * n) (drop 8 bytes) (IsBytes-drop 8 bytes (λ i. omega (arith, c.type_inv.bytes i))) in
    let len = length-take (16 * n) (drop 8 bytes) in
    let whole : length part % 16 ≡ 0 = omega (arith, len, open_.room) in
    let same : c.new.result.bytes.now ≡ part = c.new.ensures ∙ front in
    subst (λ b. b ≡ flat_map record_bytes (records_in b)) (sym same) (bytes_of_records part fits whole)

pub returns : goal.returns
returns g c =
    let codec = g.T.ValueCodec.codec in
    let w : ℕ = g.P.R.Bits.WIDTH in
    let bytes = c.args.bytes.now in
    let m = c.requires.0 in
    let s = c.requires.1 in
    let span = c.family_span-span.ensures w bytes [] m s (sym (append-nil bytes)) in
    let n : ℕ = c.family_span-span.result.nodes in
    let e : ℕ = c.family_span-span.result.entries in
    let open_ : Opening codec w bytes m n e = opening codec w bytes m n e s span.nodes span.entries in
    let rest : take (length bytes - 8) (drop 8 bytes) ≡ drop 8 bytes = take_rest bytes 8 in
    let front : c.split_at.result.0.now ≡ take (16 * n) (drop 8 bytes) = c.split_at.ensures.front ∙ ap (take (16 * n)) rest in
    let back : c.split_at.result.1.now ≡ drop (16 * n) (drop 8 bytes) = c.split_at.ensures.back ∙ ap (drop (16 * n)) rest in
    let records : records_in c.new.result.bytes.now ≡ table_records m = ap records_in (c.new.ensures ∙ front) ∙ open_.records in
    let values : c.over.result.list.items ≡ table_values m = same_items codec g.row.T.coded c.over.result.len e c.over.result.bytes.now (drop (16 * n) (drop 8 bytes)) c.over.ensures.len (c.over.ensures.bytes ∙ back) c.over.result.list open_.values ∙ open_.items_are in
    let made = c.of_parts.result in
    spelled_again codec w bytes m s (records_in made.nodes.bytes.now) made.values.list.items
    (ap (λ r. records_in r.bytes.now) c.of_parts.ensures.nodes ∙ records) (ap (λ v. v.list.items) c.of_parts.ensures.values ∙ values) made.table
