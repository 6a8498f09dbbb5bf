use Rattle.std.proofs.Common.{◌≡◌, ◌+◌, ◌≤◌, take, drop, sym, ap, ◌∙◌, subst, arith, Some}
use Rattle.std.specs.FinMap.{get}
use Rattle.prefix_model.proofs.KeyNumbers.{length-low_bits}
use Rattle.prefix_model.proofs.KeyPieces.{take_parts}
use Rattle.prefix_model.specs.Hits.{place_of}
use Rattle.prefix_model.proofs.Matching.HitLaws.{hit_place, hit_level}
use Rattle.prefix_archive.proofs.map.ArchivedPrefixMap.match_at.Goals as goal

pub level_of-requires : goal.level_of-requires
level_of-requires g c =
    let within = subst (λ n. c.args.len ≤ n) (sym (g.met.P.R.Bits.length_law c.args.key)) c.requires.within in
    (hit_place (g.P.R.Bits.bits c.args.key) c.args.depth c.args.len c.args.node.now.data_bits c.args.bit within c.requires.hit).small

pub value_of-requires-clause-node : goal.value_of-requires-clause-node
value_of-requires-clause-node g c = (take c.args.depth (g.P.R.Bits.bits c.args.key), c.requires.node)

pub value_of-requires-clause-place : goal.value_of-requires-clause-place
value_of-requires-clause-place g c =
    let within = subst (λ n. c.args.len ≤ n) (sym (g.met.P.R.Bits.length_law c.args.key)) c.requires.within in
    (hit_place (g.P.R.Bits.bits c.args.key) c.args.depth c.args.len c.args.node.now.data_bits c.args.bit within c.requires.hit).small

pub returns : goal.returns
returns g c =
    let bits = g.P.R.Bits.bits c.args.key in
    let m = c.args.self.now.table.entries in
    let h = c.requires.hit in
    let within = subst (λ n. c.args.len ≤ n) (sym (g.met.P.R.Bits.length_law c.args.key)) c.requires.within in
    let p = hit_place bits c.args.depth c.args.len c.args.node.now.data_bits c.args.bit within h in
    let level = hit_level c.args.bit c.level_of.result _ (drop c.args.depth (take h.len bits)) c.level_of.ensures.place p.at_place (length-low_bits c.level_of.result _) in
    let size = p.size in
    let from = h.from in
    let len : c.args.depth + c.level_of.result ≡ h.len = omega (arith, level, size, from) in
    let stored = c.value_of.ensures (take c.args.depth bits) (drop c.args.depth (take h.len bits)) c.requires.node p.at_place in
    let here = ap (get m) (sym (take_parts bits c.args.depth h.len from)) ∙ stored in
    let below = h.below in
    record {
      from = omega (arith, len, from);
      below = omega (arith, len, below);
      at = subst (λ n. c.args.bit ≡ place_of bits c.args.depth n) (sym len) h.at;
      stored = subst (λ n. get m (take n bits) ≡ Some c.value_of.result.spelling.value) (sym len) here;
    }
