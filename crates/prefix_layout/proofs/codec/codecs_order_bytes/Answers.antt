use Rattle.std.proofs.Common.{sym, ap, ◌∙◌}
use Rattle.prefix_layout.proofs.codec.codecs_order_bytes.Goals as goal

pub returns : goal.returns
returns g c =
    let codec = g.T.ValueCodec.codec in
    let cmp = g.T.Ord.cmp in
    let order = g.met.T.Ord.total in
    record {
      total = record {
        antisymm = λ a b. order.antisymm (codec.read a) (codec.read b);
        trans = λ a b c. order.trans (codec.read a) (codec.read b) (codec.read c);
        congr = λ a b c. order.congr (codec.read a) (codec.read b) (codec.read c);
      };
      exact = λ a b h k e.
          let first = g.met.T.ValueCodec.lawful a h.fits h.len h.accepted in
          let second = g.met.T.ValueCodec.lawful b k.fits k.len k.accepted in
          sym first.1 ∙ ap codec.spell (g.met.T.ValueCodec.apart (codec.read a) (codec.read b) first.0 second.0 e) ∙ second.1;
      values = λ a b h k. λ i. cmp (h.again i) (k.again i);
    }
