use Rattle.std.proofs.Common.{◌≡◌, ◌*◌, ◌%◌, ◌≤◌, List, ◌++◌, length, drop, sym, ap, ◌∙◌, subst, arith, length-take}
use Rattle.std.specs.Prelude.{bit_and, count_ones}
use Rattle.prefix_model.specs.Keys.{KeyBits}
use Rattle.prefix_model.specs.Positions.{PositionSet, with_positions, position_set}
use Rattle.prefix_model.specs.TableViews.{key_of}
use Rattle.prefix_layout.specs.Spans.{some_refused}
use Rattle.prefix_layout.specs.Reads.{set_places, values_in}
use Rattle.prefix_layout.proofs.Reading.{length-values_in}
use Rattle.prefix_layout.proofs.Filling.{word_within, count_of_word, no_places, positions_filled, with_none, with_read}
use Rattle.prefix_layout.proofs.read.store_values.Goals as goal

pub returns-then-places-eq0-clause-behind : goal.returns-then-places-eq0-clause-behind
returns-then-places-eq0-clause-behind g c =
    ap (λ k. drop k c.args.bytes.now) (let none : 0 ≡ 0 * g.T.ValueCodec.SIZE = omega arith in none)
    ∙ ap (λ (ss : List KeyBits). drop (length ss * g.T.ValueCodec.SIZE) c.args.bytes.now) (sym (no_places c.args.data_bits c.if-places-eq0.true))

pub returns-then-places-eq0-clause-stored : goal.returns-then-places-eq0-clause-stored
returns-then-places-eq0-clause-stored g c =
    with_none g.T.ValueCodec.codec (key_of (g.R.Bits.bits c.args.at.path) c.args.at.depth) c.args.data_bits c.args.bytes.now c.args.table.now.entries c.if-places-eq0.true

pub read_values-requires-clause-room : goal.read_values-requires-clause-room
read_values-requires-clause-room g c =
    subst (λ n. n * g.T.ValueCodec.SIZE ≤ length c.args.bytes.now) (sym (count_of_word c.args.data_bits)) c.requires.room

pub read_values-requires-clause-accepted : goal.read_values-requires-clause-accepted
read_values-requires-clause-accepted g c =
    ap (λ n. some_refused g.T.ValueCodec.codec n c.args.bytes.now) (count_of_word c.args.data_bits) ∙ c.requires.accepted

pub insert_node-requires-clause-some : goal.insert_node-requires-clause-some
insert_node-requires-clause-some g c = let more = c.if-places-eq0.false in omega (arith, more)

pub insert_node-requires-clause-within : goal.insert_node-requires-clause-within
insert_node-requires-clause-within g c = word_within c.args.data_bits

pub insert_node-requires-clause-count : goal.insert_node-requires-clause-count
insert_node-requires-clause-count g c =
    let codec = g.T.ValueCodec.codec in
    let n = count_ones (bit_and c.args.data_bits 2147483647) in
    c.read_values.new.values.ok.0
    ∙ ap length (c.in_ok-rest.ensures.read ∙ ap (λ (vs : List g.row.T.Denot). vs ++ values_in codec n c.args.bytes.now) c.requires.none)
    ∙ length-values_in codec n c.args.bytes.now

pub insert_node-requires-clause-free : goal.insert_node-requires-clause-free
insert_node-requires-clause-free g c = λ s few. c.requires.free s

pub returns-in-Ok-clause-behind : goal.returns-in-Ok-clause-behind
returns-in-Ok-clause-behind g c = c.in_ok-rest.ensures.behind ∙ ap (λ n. drop (n * g.T.ValueCodec.SIZE) c.args.bytes.now) (count_of_word c.args.data_bits)

pub returns-in-Ok-clause-stored : goal.returns-in-Ok-clause-stored
returns-in-Ok-clause-stored g c =
    let codec = g.T.ValueCodec.codec in
    let n = count_ones (bit_and c.args.data_bits 2147483647) in
    c.in-Ok.ensures.stored
    ∙ with_read codec (key_of (g.R.Bits.bits c.args.at.path) c.args.at.depth) c.args.data_bits c.args.bytes.now c.args.table.now.entries c.read_values.new.values.items
    (c.in_ok-rest.ensures.read ∙ ap (λ (vs : List g.row.T.Denot). vs ++ values_in codec n c.args.bytes.now) c.requires.none)

pub returns-in-Ok-clause-kept : goal.returns-in-Ok-clause-kept
returns-in-Ok-clause-kept g c = λ h.
    let codec = g.T.ValueCodec.codec in
    let n = count_ones (bit_and c.args.data_bits 2147483647) in
    let bits = g.R.Bits.bits c.args.at.path in
    let d = c.args.at.depth in
    let p : KeyBits = key_of bits d in
    let x = c.args.data_bits in
    let bytes = c.args.bytes.now in
    let m = c.args.table.now.entries in
    let shallow = c.requires.shallow in
    let at_five = c.requires.at_five in
    let five : length p % 5 ≡ 0 = omega (arith, length-take d bits, g.met.R.Bits.length_law c.args.at.path, shallow, at_five) in
    let stored = c.in-Ok.ensures.stored
    ∙ with_read codec p x bytes m c.read_values.new.values.items (c.in_ok-rest.ensures.read ∙ ap (λ (vs : List g.row.T.Denot). vs ++ values_in codec n bytes) c.requires.none) in
    c.in-Ok.ensures.kept
    ∙ ap (λ (kept : PositionSet). with_positions kept p) h
    ∙ positions_filled p five m x (values_in codec (length (set_places x)) bytes) c.if-places-eq0.false (length-values_in codec (length (set_places x)) bytes)
    ∙ ap position_set (sym stored)
