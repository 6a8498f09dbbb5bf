use Rattle.std.proofs.Common.{◌≡◌, length, take, ap, ◌∙◌, subst, arith}
use Rattle.std.specs.Prelude.{slice_get}
use Rattle.std.specs.Option.{option_map}
use Rattle.prefix_model.specs.Walks.{covers}
use Rattle.prefix_map.specs.MapViews.{MapView}
use Rattle.prefix_map.specs.Searches.{entry_from}
use Rattle.prefix_map.proofs.MatchLaws as laws
use Rattle.prefix_map.proofs.map.PrefixMap.shortest.Goals as goal

pub returns-clause-first : goal.returns-clause-first
returns-clause-first g c =
    let bits = g.P.R.Bits.bits c.repr.result in
    let key = g.P.PrefixKey.key c.args.prefix.now in
    let is : take c.from.result bits ≡ key = ap (λ n. take n bits) (c.from.ensures ∙ c.prefix_len.ensures) ∙ c.repr.ensures.key in
    let whole = g.met.P.R.Bits.length_law c.repr.result in
    let size : length key ≡ c.from.result = laws.front_size bits key c.from.result g.P.R.Bits.WIDTH is whole (omega arith) in
    subst (λ (v : MapView g.row.T.Denot). option_map (entry_from g.P.R.Bits.bits 0) c.shortest_front.result ≡ slice_get (covers v.entries key) 0) c.self.view_is
    (laws.shortest_found c.self.inside.table.entries key bits c.from.result is size g.P.R.Bits.bits c.shortest_front.result c.shortest_front.ensures.found)
