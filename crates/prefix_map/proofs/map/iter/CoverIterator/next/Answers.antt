use Rattle.std.proofs.Common.{◌≡◌, ◌∷◌, [], ◌&&◌, ◌+◌, ◌≤◌, length, take, sym, ap, ◌∙◌, arith, length-take}
use Rattle.std.specs.Prelude.{nat_le}
use Rattle.std.specs.List.{filter}
use Rattle.std.specs.FinMap.{entries}
use Rattle.prefix_model.specs.Tables.{KeyMap}
use Rattle.prefix_model.specs.Walks.{begins_with}
use Rattle.prefix_map.specs.Items.{covers_left}
use Rattle.prefix_map.specs.MapViews.{MapView}
use Rattle.prefix_map.specs.Searches.{entry_from}
use Rattle.prefix_model.proofs.Walking.CoverLaws.{none_left, first_left}
use Rattle.prefix_map.proofs.ItemLaws.{item_itself}
use Rattle.prefix_model.proofs.IteratorLoops.{fewer}
use Rattle.prefix_map.proofs.map.iter.CoverIterator.next.Goals as goal

pub returns-in_err-found-clause-steps : goal.returns-in_err-found-clause-steps
returns-in_err-found-clause-steps g c =
    let s = c.args.self.now in
    let p = g.P.PrefixKey.key s.prefix in
    let to = c.from-to.result in
    let bits = g.P.R.Bits.bits c.repr.result in
    let whole = g.met.P.R.Bits.length_law c.repr.result in
    let width = g.met.P.PrefixBits.width_law in
    let fits = s.fits in
    let len : to ≡ g.P.PrefixKey.prefix_len s.prefix = c.from-to.ensures ∙ c.prefix_len.ensures in
    let is : take to bits ≡ p = ap (λ n. take n bits) len ∙ c.repr.ensures.key in
    let same = ap length is in
    let size : length p ≡ to = omega (arith, whole, width, fits, len, same, length-take to bits) in
    let table = ap (λ (v : MapView g.row.T.Denot). v.entries) c.table.ensures.same in
    let none = none_left c.table.result.now.entries p bits to is size s.from c.in_err-found.ensures.found in
    let left : covers_left s.map p s.from ≡ [] =
    ap (λ m. covers_left m p s.from) c.in_ok-map.was ∙ ap (λ (m : KeyMap g.row.T.Denot). filter (λ e. begins_with e.0 p && nat_le s.from (length e.0)) (entries m)) (sym table) ∙ none in
    rw c.from_residual-in_err-found.ensures (left, left)

pub returns-clause-steps : goal.returns-clause-steps
returns-clause-steps g c =
    let s = c.args.self.now in
    let p = g.P.PrefixKey.key s.prefix in
    let to = c.from-to.result in
    let found = c.in_ok-found.found in
    let bits = g.P.R.Bits.bits c.repr.result in
    let whole = g.met.P.R.Bits.length_law c.repr.result in
    let width = g.met.P.PrefixBits.width_law in
    let fits = s.fits in
    let len : to ≡ g.P.PrefixKey.prefix_len s.prefix = c.from-to.ensures ∙ c.prefix_len.ensures in
    let is : take to bits ≡ p = ap (λ n. take n bits) len ∙ c.repr.ensures.key in
    let same = ap length is in
    let size : length p ≡ to = omega (arith, whole, width, fits, len, same, length-take to bits) in
    let table = ap (λ (v : MapView g.row.T.Denot). v.entries) c.table.ensures.same in
    let short = c.in_ok-found.ensures.key.fits in
    let within : found.len ≤ g.P.R.Bits.WIDTH = omega (arith, short, len, fits, width) in
    let found_whole = g.met.P.R.Bits.length_law found.key in
    let found_size : length (take found.len (g.P.R.Bits.bits found.key)) ≡ found.len = omega (arith, within, found_whole, length-take found.len (g.P.R.Bits.bits found.key)) in
    let m = c.table.result.now.entries in
    let first = first_left m p bits to is size s.from (entry_from g.P.R.Bits.bits 0 found) c.in_ok-found.ensures.found in
    let near = g.P.PrefixKey.key c.prefix_of.result in
    let left : covers_left s.map p s.from ≡ (near, found.value.now) ∷ covers_left s.map p (found.len + 1) =
    ap (λ x. covers_left x p s.from) c.in_ok-map.was
    ∙ ap (λ (x : KeyMap g.row.T.Denot). filter (λ e. begins_with e.0 p && nat_le s.from (length e.0)) (entries x)) (sym table)
    ∙ first
    ∙ (λ j. (sym c.prefix_of.ensures.item.key_is j, found.value.now) ∷ filter (λ e. begins_with e.0 p && nat_le (found_size j + 1) (length e.0)) (entries (table j)))
    ∙ ap (λ x. (near, found.value.now) ∷ covers_left x p (found.len + 1)) (sym c.in_ok-map.was) in
    (left, item_itself g.P.R.Bits.WIDTH g.P.PrefixKey c.prefix_of.result _ c.prefix_of.ensures.item)

pub returns-clause-goes : goal.returns-clause-goes
returns-clause-goes g c = let e = (returns-clause-steps g c).0 in record { on = λ _. (tt, tt, fewer _ _ _ e); keeps = tt; rests = λ _. tt }
