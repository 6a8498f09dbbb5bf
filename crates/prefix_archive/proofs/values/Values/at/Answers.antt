use Rattle.std.proofs.Common.{◌≡◌, ◌*◌, length, take, drop, sym, ap, ◌∙◌, arith, length-drop, Some}
use Rattle.prefix_archive.proofs.Pieces.{piece_at, piece_within}
use Rattle.prefix_archive.proofs.values.Values.at.Goals as goal

pub overflow_mul-number : goal.overflow_mul-number
overflow_mul-number g c =
    let codec = g.T.ValueCodec.codec in
    let self = c.args.self.now in
    let within = piece_within codec self.len self.bytes.now self.list c.args.number c.requires in
    let size : c.args.number * c.SIZE.result ≡ c.args.number * codec.size = ap (λ k. c.args.number * k) (c.SIZE.ensures ∙ sym g.met.T.ValueCodec.size_is) in
    omega (arith, within, size)

pub split_at-requires : goal.split_at-requires
split_at-requires g c =
    let codec = g.T.ValueCodec.codec in
    let self = c.args.self.now in
    let within = piece_within codec self.len self.bytes.now self.list c.args.number c.requires in
    let size : c.args.number * c.SIZE.result ≡ c.args.number * codec.size = ap (λ k. c.args.number * k) (c.SIZE.ensures ∙ sym g.met.T.ValueCodec.size_is) in
    omega (arith, within, size)

pub split_at-requires-2 : goal.split_at-requires-2
split_at-requires-2 g c =
    let codec = g.T.ValueCodec.codec in
    let self = c.args.self.now in
    let within = piece_within codec self.len self.bytes.now self.list c.args.number c.requires in
    let size : c.args.number * c.SIZE.result ≡ c.args.number * codec.size = ap (λ k. c.args.number * k) (c.SIZE.ensures ∙ sym g.met.T.ValueCodec.size_is) in
    let size-2 : c.SIZE-2.result ≡ codec.size = c.SIZE-2.ensures ∙ sym g.met.T.ValueCodec.size_is in
    let len = ap length c.split_at.ensures.back ∙ length-drop (c.args.number * c.SIZE.result) self.bytes.now in
    omega (arith, within, size, size-2, len)

pub over-requires : goal.over-requires
over-requires g c =
    let codec = g.T.ValueCodec.codec in
    let self = c.args.self.now in
    let piece = piece_at codec self.len self.bytes.now self.list c.args.number c.requires in
    let size : c.SIZE.result ≡ codec.size = c.SIZE.ensures ∙ sym g.met.T.ValueCodec.size_is in
    let size-2 : c.SIZE-2.result ≡ codec.size = c.SIZE-2.ensures ∙ sym g.met.T.ValueCodec.size_is in
    let same : c.split_at-2.result.0.now ≡ take codec.size (drop (c.args.number * codec.size) self.bytes.now)
    = c.split_at-2.ensures.front ∙ (λ i. take (size-2 i) ((c.split_at.ensures.back ∙ ap (λ k. drop (c.args.number * k) self.bytes.now) size) i)) in
    record { value = piece.value; spelled = piece.spelled; same = same ∙ piece.same }

pub returns : goal.returns
returns g c =
    let codec = g.T.ValueCodec.codec in
    let self = c.args.self.now in
    let piece = piece_at codec self.len self.bytes.now self.list c.args.number c.requires in
    let size : c.SIZE.result ≡ codec.size = c.SIZE.ensures ∙ sym g.met.T.ValueCodec.size_is in
    let size-2 : c.SIZE-2.result ≡ codec.size = c.SIZE-2.ensures ∙ sym g.met.T.ValueCodec.size_is in
    let same : c.split_at-2.result.0.now ≡ take codec.size (drop (c.args.number * codec.size) self.bytes.now)
    = c.split_at-2.ensures.front ∙ (λ i. take (size-2 i) ((c.split_at.ensures.back ∙ ap (λ k. drop (c.args.number * k) self.bytes.now) size) i)) in
    piece.here ∙ ap Some (sym piece.spelled.again ∙ ap codec.read (sym (same ∙ piece.same)) ∙ sym c.over.ensures)
