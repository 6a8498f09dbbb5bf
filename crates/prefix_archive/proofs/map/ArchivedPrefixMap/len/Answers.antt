use Rattle.std.proofs.Common.{◌<◌, ◌^◌, ◌∙◌, subst, sym}
use Rattle.prefix_model.specs.InPlace.{records_in}
use Rattle.prefix_archive.proofs.Opening.{entries_counted, few_entries}
use Rattle.prefix_archive.proofs.map.ArchivedPrefixMap.len.Goals as goal

pub returns-clause-entries : goal.returns-clause-entries
returns-clause-entries g c =
    let self = c.args.self.now in
    c.len.ensures ∙ entries_counted g.T.ValueCodec.codec g.P.R.Bits.WIDTH (records_in self.nodes.bytes.now) self.values.list.items self.table

pub returns-clause-few : goal.returns-clause-few
returns-clause-few g c =
    let self = c.args.self.now in
    subst (λ n. n < 2 ^ 32) (sym c.len.ensures) (few_entries g.T.ValueCodec.codec g.P.R.Bits.WIDTH (records_in self.nodes.bytes.now) self.values.list.items self.table)
