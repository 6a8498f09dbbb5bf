use Rattle.std.proofs.Common.{◌≡◌, ◌+◌, ◌≤◌, ◌++◌, take, drop, sym, ap, ◌∙◌, subst, arith, Some}
use Rattle.std.specs.FinMap as map
use Rattle.prefix_model.specs.Positions.{data_bits}
use Rattle.prefix_model.proofs.KeyNumbers.{length-low_bits}
use Rattle.prefix_model.proofs.Bitmaps.PlaceBits.{set_from}
use Rattle.prefix_model.proofs.KeyPieces.{take_parts}
use Rattle.prefix_model.specs.Hits.{place_of}
use Rattle.prefix_map.proofs.Descents.{there, bit_moved}
use Rattle.prefix_model.proofs.Matching.HitLaws.{hit_place, hit_level}
use Rattle.prefix_map.proofs.hits.match_at.Goals as goal

pub level_of-requires : goal.level_of-requires
level_of-requires g c =
    let bits = g.R.Bits.bits c.args.key in
    let within = subst (λ n. c.args.len ≤ n) (sym (g.met.R.Bits.length_law c.args.key)) c.requires.within in
    (hit_place bits c.args.depth c.args.len (data_bits (map.get c.args.table.now.entries) (take c.args.depth bits)) c.args.bit within c.requires.hit).small

pub value-requires-clause-set : goal.value-requires-clause-set
value-requires-clause-set g c =
    set_from _ c.args.bit (bit_moved c.args.table.now (take c.args.depth (g.R.Bits.bits c.args.key)) c.args.at c.requires.named c.args.bit c.requires.hit.is_marked)

pub returns : goal.returns
returns g c =
    let view = c.args.table.now in
    let bits = g.R.Bits.bits c.args.key in
    let m = view.entries in
    let d = c.args.depth in
    let h = c.requires.hit in
    let within = subst (λ n. c.args.len ≤ n) (sym (g.met.R.Bits.length_law c.args.key)) c.requires.within in
    let p = hit_place bits d c.args.len (data_bits (map.get m) (take d bits)) c.args.bit within h in
    let s = drop d (take h.len bits) in
    let level = hit_level c.args.bit c.level_of.result _ s c.level_of.ensures.place p.at_place (length-low_bits c.level_of.result _) in
    let size = p.size in
    let from = h.from in
    let len : d + c.level_of.result ≡ h.len = omega (arith, level, size, from) in
    let here = ap (map.get m) (sym (take_parts bits d h.len from)) ∙ ap (λ q. map.get m (q ++ s)) (sym (there view (take d bits) c.args.at c.requires.named)) ∙ c.value.ensures s p.at_place in
    let below = h.below in
    record {
      from = omega (arith, len, from);
      below = omega (arith, len, below);
      at = subst (λ n. c.args.bit ≡ place_of bits d n) (sym len) h.at;
      stored = subst (λ n. map.get m (take n bits) ≡ Some c.value.result.now) (sym len) here;
    }
