use Rattle.std.proofs.Common.{◌≡◌, [], length, take, Some, ap, ◌∙◌, subst, arith}
use Rattle.std.specs.Prelude.{IfSome}
use Rattle.std.specs.Option.{option_map}
use Rattle.std.specs.FinMap as map
use Rattle.prefix_model.specs.Walks.{IsLongestUnder}
use Rattle.prefix_map.specs.MapViews.{MapView}
use Rattle.prefix_map.specs.Searches.{found_key}
use Rattle.prefix_map.proofs.MatchLaws as laws
use Rattle.prefix_map.proofs.map.PrefixMap.longest.Goals as goal

pub returns-clause-longest : goal.returns-clause-longest
returns-clause-longest g c =
    let bits = g.P.R.Bits.bits c.repr.result in
    let key = g.P.PrefixKey.key c.args.prefix.now in
    let is : take c.from.result bits ≡ key = ap (λ n. take n bits) (c.from.ensures ∙ c.prefix_len.ensures) ∙ c.repr.ensures.key in
    let whole = g.met.P.R.Bits.length_law c.repr.result in
    let size : length key ≡ c.from.result = laws.front_size bits key c.from.result g.P.R.Bits.WIDTH is whole (omega arith) in
    subst (λ (v : MapView g.row.T.Denot). IsLongestUnder v.entries [] key (option_map (found_key g.P.R.Bits.bits) c.longest_front.result)) c.self.view_is
    (laws.longest_found c.self.inside.table.entries key bits c.from.result is size g.P.R.Bits.bits c.longest_front.result c.longest_front.ensures.found)

pub returns-clause-value : goal.returns-clause-value
returns-clause-value g c =
    let bits = g.P.R.Bits.bits c.repr.result in
    let key = g.P.PrefixKey.key c.args.prefix.now in
    let is : take c.from.result bits ≡ key = ap (λ n. take n bits) (c.from.ensures ∙ c.prefix_len.ensures) ∙ c.repr.ensures.key in
    let whole = g.met.P.R.Bits.length_law c.repr.result in
    let size : length key ≡ c.from.result = laws.front_size bits key c.from.result g.P.R.Bits.WIDTH is whole (omega arith) in
    subst (λ (v : MapView g.row.T.Denot). IfSome c.longest_front.result (λ f. map.get v.entries (found_key g.P.R.Bits.bits f) ≡ Some f.value.now)) c.self.view_is
    (laws.longest_value c.self.inside.table.entries key bits c.from.result is size g.P.R.Bits.bits c.longest_front.result c.longest_front.ensures.found)
