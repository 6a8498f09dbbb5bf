use Rattle.std.proofs.Common.{◌+◌, ◌*◌, sym, ◌∙◌, arith}
use Rattle.prefix_layout.proofs.Told.{counted}
use Rattle.prefix_layout.proofs.check.family_span.Goals as goal

pub word_at-nodes-requires : goal.word_at-nodes-requires
word_at-nodes-requires g c =
    let h = c.requires in
    let told = counted g.T.ValueCodec.codec h.width c.args.bytes.now h.front h.rest h.table h.spelled h.joined in
    omega (arith, told.long)

pub word_at-entries-requires : goal.word_at-entries-requires
word_at-entries-requires g c =
    let h = c.requires in
    let told = counted g.T.ValueCodec.codec h.width c.args.bytes.now h.front h.rest h.table h.spelled h.joined in
    omega (arith, told.long)

pub returns : goal.returns
returns g c = λ w front rest m s joined.
    let codec = g.T.ValueCodec.codec in
    let told = counted codec w c.args.bytes.now front rest m s joined in
    record {
      nodes = c.word_at-nodes.ensures ∙ told.nodes;
      entries = c.word_at-entries.ensures ∙ told.entries;
      len = (λ i. 8 + 16 * c.word_at-nodes.ensures i + c.word_at-entries.ensures i * (c.SIZE.ensures ∙ sym g.met.T.ValueCodec.size_is) i) ∙ told.len;
    }
