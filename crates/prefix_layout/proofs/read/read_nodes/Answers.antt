use Rattle.std.proofs.Common.{◌≡◌, ℕ, ◌-◌, ◌*◌, ◌≤◌, List, [], ◌∷◌, ◌++◌, length, take, drop, sym, ap, ◌∙◌, subst, arith}
use Rattle.std.proofs.lemmas.List.{take_rest}
use Rattle.std.specs.FinMap as finite
use Rattle.prefix_model.specs.Tables.{KeyMap}
use Rattle.prefix_model.specs.Positions.{NodeRecord, position_set}
use Rattle.prefix_model.proofs.Building.{position_set-empty}
use Rattle.prefix_model.specs.Spelling.{Spells}
use Rattle.prefix_model.specs.FirstCause.{first_word, read_records}
use Rattle.prefix_model.specs.TableViews.{TableView}
use Rattle.prefix_layout.specs.declared.read.Waiting.{Waiting}
use Rattle.prefix_layout.specs.Reads.{set_places, waiting_keys, waiting_depths}
use Rattle.prefix_layout.proofs.Waits.{AreWaiting, root_waits}
use Rattle.prefix_layout.proofs.Reading.{Reading, opened_of, records_within, family_table, family_spelled, some_waiting, at_node, at_waiting, next_node, all_nodes}
use Rattle.prefix_layout.proofs.read.read_nodes.Goals as goal

pub word_at-nodes-requires : goal.word_at-nodes-requires
word_at-nodes-requires g c = omega (arith, (opened_of c.requires.spelled.1 (λ i. omega (arith, c.type_inv.bytes i))).counts)

pub slice_bounds-body-count : goal.slice_bounds-body-count
slice_bounds-body-count g c = (opened_of c.requires.spelled.1 (λ i. omega (arith, c.type_inv.bytes i))).counts

pub slice_bounds-body-start : goal.slice_bounds-body-start
slice_bounds-body-start g c = omega (arith, (opened_of c.requires.spelled.1 (λ i. omega (arith, c.type_inv.bytes i))).counts)

pub front_records-records-requires : goal.front_records-records-requires
front_records-records-requires g c = records_within c.requires.spelled.1 (λ i. omega (arith, c.type_inv.bytes i)) c.word_at-nodes.result (take (length c.args.bytes.now - 8) (drop 8 c.args.bytes.now)) c.word_at-nodes.ensures (take_rest c.args.bytes.now 8)

pub slice_bounds-values-count : goal.slice_bounds-values-count
slice_bounds-values-count g c = records_within c.requires.spelled.1 (λ i. omega (arith, c.type_inv.bytes i)) c.word_at-nodes.result (take (length c.args.bytes.now - 8) (drop 8 c.args.bytes.now)) c.word_at-nodes.ensures (take_rest c.args.bytes.now 8)

pub slice_bounds-values-start : goal.slice_bounds-values-start
slice_bounds-values-start g c =
    let within = records_within c.requires.spelled.1 (λ i. omega (arith, c.type_inv.bytes i)) c.word_at-nodes.result (take (length c.args.bytes.now - 8) (drop 8 c.args.bytes.now)) c.word_at-nodes.ensures (take_rest c.args.bytes.now 8) in
    omega (arith, within)

pub loop-i-init : goal.loop-i-init
loop-i-init g c =
    let codec = g.T.ValueCodec.codec in
    let w : ℕ = g.R.Bits.WIDTH in
    let bytes = c.args.bytes.now in
    let spelled = opened_of c.requires.spelled.1 (λ i. omega (arith, c.type_inv.bytes i)) in
    let bits = g.R.Bits.bits in
    let n = c.word_at-nodes.result in
    let body : List ℕ = take (length bytes - 8) (drop 8 bytes) in
    let body_is : body ≡ drop 8 bytes = take_rest bytes 8 in
    let values : List ℕ = take (length body - 16 * n) (drop (16 * n) body) in
    let queue = c.push_node.new.queue.items in
    let root : Waiting g.row.R.Denot = record { path = c.zeros.result; depth = 0 } in
    let alone : root ∷ [] ≡ queue = sym (c.in_ok-push_node.ensures ∙ ap (λ q. q ++ root ∷ []) c.new-queue.ensures.items) in
    let values_are : drop (16 * first_word bytes) (drop 8 bytes) ≡ values = sym (take_rest body (16 * n) ∙ (λ j. drop (16 * c.word_at-nodes.ensures j) (body_is j))) in
    let none : finite.empty ≡ c.new-table.result.entries = sym c.new-table.ensures.entries in
    let whole = family_table codec bytes in
    let Start : List (Waiting g.row.R.Denot) → List NodeRecord → List ℕ → KeyMap g.row.T.Denot → Type 0 = λ q rs vs m. Reading codec w whole (waiting_keys bits q) (waiting_depths q) rs vs m in
    let all : n ≡ n - 0 = omega arith in
    let records = c.front_records-records.result.bytes.now in
    let records_are : read_records (first_word bytes) (drop 8 bytes) ≡ read_records (n - 0) records
    = (λ j. read_records (sym c.word_at-nodes.ensures j) (sym body_is j)) ∙ sym c.front_records-records.ensures.same ∙ ap (λ k. read_records k records) all in
    record {
      reading = record {
        reading =
            subst (λ q. Start q (read_records (n - 0) records) values c.new-table.result.entries) alone
            (subst (λ rs. Start (root ∷ []) rs values c.new-table.result.entries) records_are
            (subst (λ vs. Start (root ∷ []) (read_records (first_word bytes) (drop 8 bytes)) vs c.new-table.result.entries) values_are
            (subst (λ m. Start (root ∷ []) (read_records (first_word bytes) (drop 8 bytes)) (drop (16 * first_word bytes) (drop 8 bytes)) m) none spelled.start)));
        waits =
            subst (λ (q : List (Waiting g.row.R.Denot)). AreWaiting (waiting_keys bits q) (waiting_depths q) c.new-table.result.entries) alone
            (subst (λ (m : KeyMap g.row.T.Denot). AreWaiting (waiting_keys bits (root ∷ [])) (waiting_depths (root ∷ [])) m) none root_waits);
      };
      none = c.new-held.ensures.items;
      kept = c.new-table.ensures.kept ∙ position_set-empty g.row.T.Denot ∙ ap position_set none;
    }

pub index-at-requires : goal.index-at-requires
index-at-requires g c = omega (arith, some_waiting c.loop-i.invariant.reading c.loop-i-test.true, c.loop-i.queue.ok.0)

pub store_values-requires-clause-shallow : goal.store_values-requires-clause-shallow
store_values-requires-clause-shallow g c = (at_node c.loop-i.invariant.reading c.loop-i-test.true c.index-at.ensures c.fetch-node.ensures.record).shallow

pub store_values-requires-clause-at_five : goal.store_values-requires-clause-at_five
store_values-requires-clause-at_five g c = (at_waiting c.loop-i.invariant.reading c.loop-i-test.true c.index-at.ensures).fives.0

pub store_values-requires-clause-room : goal.store_values-requires-clause-room
store_values-requires-clause-room g c =
    subst (λ k. length (set_places c.fetch-node.result.data_bits) * k ≤ length c.loop-i.values.now) g.met.T.ValueCodec.size_is (at_node c.loop-i.invariant.reading c.loop-i-test.true c.index-at.ensures c.fetch-node.ensures.record).room

pub store_values-requires-clause-accepted : goal.store_values-requires-clause-accepted
store_values-requires-clause-accepted g c = (at_node c.loop-i.invariant.reading c.loop-i-test.true c.index-at.ensures c.fetch-node.ensures.record).accepted

pub store_values-requires-clause-free : goal.store_values-requires-clause-free
store_values-requires-clause-free g c = (at_waiting c.loop-i.invariant.reading c.loop-i-test.true c.index-at.ensures).free.0

pub push_children-requires : goal.push_children-requires
push_children-requires g c = (at_node c.loop-i.invariant.reading c.loop-i-test.true c.index-at.ensures c.fetch-node.ensures.record).deep

pub loop-i-preserved : goal.loop-i-preserved
loop-i-preserved g c =
    let places = length (set_places c.fetch-node.result.data_bits) in
    record {
      reading =
          next_node c.loop-i.invariant.reading c.loop-i-test.true c.index-at.ensures c.fetch-node.ensures.record c.push_children.new.queue.items c.in_ok-values.values.now c.store_values.new.table.entries c.in_ok-push_children.ensures.keys c.in_ok-push_children.ensures.depths
          (ap (λ v. v.now) c.in_ok-values.values-is ∙ c.in_ok-values.ensures.behind ∙ ap (λ k. drop (places * k) c.loop-i.values.now) (sym g.met.T.ValueCodec.size_is)) c.in_ok-values.ensures.stored;
      none = c.in_ok-values.ensures.none;
      kept = c.in_ok-values.ensures.kept c.loop-i.invariant.kept;
    }

pub returns-clause-table : goal.returns-clause-table
returns-clause-table g c =
    let codec = g.T.ValueCodec.codec in
    let w : ℕ = g.R.Bits.WIDTH in
    subst (Spells codec w c.args.bytes.now) (sym (ap (λ (t : TableView g.row.T.Denot). t.entries) c.into_table.ensures ∙ all_nodes c.loop-i.invariant.reading c.loop-i-test.false)) (family_spelled codec w c.args.bytes.now c.requires.spelled.0 c.requires.spelled.1)
