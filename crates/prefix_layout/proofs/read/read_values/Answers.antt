use Rattle.std.proofs.Common.{◌≡◌, ◌-◌, ◌*◌, ◌≤◌, ◌++◌, length, take, drop, refl, sym, ap, ◌∙◌, subst, arith}
use Rattle.prefix_layout.specs.Reads.{values_in}
use Rattle.prefix_layout.proofs.Storing.{Taking, next_value, value_read, all_read}
use Rattle.prefix_layout.proofs.read.read_values.Goals as goal

pub loop-init : goal.loop-init
loop-init g c =
    let codec = g.T.ValueCodec.codec in
    let n = c.args.count in
    let bytes = c.args.bytes.now in
    let vs = c.args.values.now.items in
    let all : n ≡ n - 0 = omega arith in
    subst (λ k. Taking codec (vs ++ values_in codec n bytes) (drop (n * codec.size) bytes) k bytes vs) all record {
      room = subst (λ k. n * k ≤ length bytes) (sym g.met.T.ValueCodec.size_is) c.requires.room;
      accepted = c.requires.accepted;
      same = refl;
      ends = refl;
    }

pub split_at-requires : goal.split_at-requires
split_at-requires g c =
    subst (λ k. k ≤ length c.loop.rest.now) (g.met.T.ValueCodec.size_is ∙ sym c.SIZE.ensures) (next_value c.loop-test.true c.loop.invariant).room

pub read-requires-clause-accepted : goal.read-requires-clause-accepted
read-requires-clause-accepted g c =
    let codec = g.T.ValueCodec.codec in
    ap codec.accepted (c.split_at.ensures.front ∙ ap (λ k. take k c.loop.rest.now) (c.SIZE.ensures ∙ sym g.met.T.ValueCodec.size_is)) ∙ (next_value c.loop-test.true c.loop.invariant).accepted

pub loop-preserved : goal.loop-preserved
loop-preserved g c =
    let codec = g.T.ValueCodec.codec in
    let rest = c.loop.rest.now in
    let size : c.SIZE.result ≡ codec.size = c.SIZE.ensures ∙ sym g.met.T.ValueCodec.size_is in
    value_read (next_value c.loop-test.true c.loop.invariant) c.split_at.result.1.now c.push_value.new.values.items c.in_ok-value.value (c.split_at.ensures.back ∙ ap (λ k. drop k rest) size) c.in_ok-push_value.ensures
    (c.in_ok-value.ensures ∙ ap codec.read (c.split_at.ensures.front ∙ ap (λ k. take k rest) size))

pub returns : goal.returns
returns g c =
    let done = all_read c.loop-test.false c.loop.invariant in
    record { behind = done.1 ∙ ap (λ k. drop (c.args.count * k) c.args.bytes.now) g.met.T.ValueCodec.size_is; read = done.0 }
