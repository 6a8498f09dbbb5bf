use Rattle.std.proofs.Common.{◌≡◌, ℕ, List, ◌*◌, ◌+◌, ◌-◌, ◌≤◌, length, take, drop, sym, ap, ◌∙◌, subst, arith, Ok}
use Rattle.prefix_model.specs.FirstCause.{check}
use Rattle.std.proofs.lemmas.List.{take_rest, length-drop}
use Rattle.prefix_layout.proofs.Passing.{Passing, all_passed, fits_in}
use Rattle.prefix_layout.proofs.check.test_family.Goals as goal

pub returns : goal.returns
returns g c =
    let codec = g.T.ValueCodec.codec in
    let bytes = c.args.bytes.now in
    let nodes = c.word_at-nodes.result in
    let entries = c.word_at-entries.result in
    let body : List ℕ = take (length bytes - 8) (drop 8 bytes) in
    let tail : List ℕ = take (length body - 16 * nodes) (drop (16 * nodes) body) in
    let size_is : c.SIZE.result ≡ codec.size = c.SIZE.ensures ∙ sym g.met.T.ValueCodec.size_is in
    let count : c.from-4.result ≡ entries = c.from-4.ensures in
    let values : entries * c.SIZE.result ≤ length tail = subst (λ x. x * c.SIZE.result ≤ length tail) count c.if-values-size.false in
    let passing : Passing codec c.args.width nodes entries c.in_ok-total.total bytes body tail = record {
      counts = c.if-bytes-lt8.false;
      nodes_is = c.word_at-nodes.ensures;
      entries_is = c.word_at-entries.ensures;
      body_is = take_rest bytes 8;
      tail_is = take_rest body (16 * nodes);
      root = c.if-nodes-eq0.false;
      room = omega arith;
      records = sym c.in_ok-total.was ∙ c.test_nodes.ensures;
      enough = omega arith;
      not_more = omega arith;
      values = subst (λ x. entries * x ≤ length tail) size_is values;
      accepted = sym c.refuses_one.ensures ∙ c.if-refuses_one.false;
    } in
    let len : length tail ≡ length bytes - 8 - 16 * nodes = ap length (take_rest body (16 * nodes) ∙ ap (drop (16 * nodes)) (take_rest bytes 8)) ∙ length-drop (16 * nodes) (drop 8 bytes) ∙ ap (λ x. x - 16 * nodes) (length-drop 8 bytes) in
    let ends : 8 + 16 * nodes + entries * c.SIZE.result ≤ length bytes = fits_in (length bytes) (16 * nodes) (entries * c.SIZE.result) (length tail) c.if-bytes-lt8.false (subst (λ x. 16 * nodes ≤ x) (ap length (take_rest bytes 8) ∙ length-drop 8 bytes) passing.room) len values in (
      subst (λ x. check codec c.args.width bytes ≡ Ok (drop (8 + 16 * nodes + x * c.SIZE.result) bytes)) (sym count) (all_passed codec c.args.width nodes entries c.in_ok-total.total c.SIZE.result bytes body tail size_is passing),
      record { nodes = c.word_at-nodes.ensures; entries = c.word_at-entries.ensures; len = subst (λ x. 8 + 16 * nodes + x * c.SIZE.result ≤ length bytes) (sym count) ends },
    )
