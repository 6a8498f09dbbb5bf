use Rattle.std.proofs.Common.{◌-◌, ◌∙◌, false, take, drop, replicate, sym, arith}
use Rattle.prefix_model.proofs.Fronts.{take_front, drop_front}
use Rattle.prefix_model.proofs.KeyPieces.{taken_length}
use Rattle.prefix_map.proofs.search.found_of.Goals as goal

pub returns-clause-front : goal.returns-clause-front
returns-clause-front g c =
    let bits = g.R.Bits.bits c.args.key in
    let n = c.args.found.len in
    let size = taken_length bits n g.R.Bits.WIDTH (g.met.R.Bits.length_law c.args.key) c.requires in
    let zeros = replicate (g.R.Bits.WIDTH - n) false in
    record {
      fits = omega arith;
      front = (λ j. take (sym size j) (c.keep.ensures j)) ∙ take_front (take n bits) zeros;
      zeros = (λ j. drop (sym size j) (c.keep.ensures j)) ∙ drop_front (take n bits) zeros;
    }
