use Rattle.std.proofs.Common.{◌≡◌, ◌+◌, ◌-◌, ◌*◌, ◌%◌, ◌^◌, ◌++◌, ◌∙◌, false, length, take, replicate, sym, ap, arith}
use Rattle.std.proofs.lemmas.List.{append_assoc}
use Rattle.prefix_model.specs.Keys.{low_bits}
use Rattle.prefix_model.proofs.KeyNumbers.{length-low_bits}
use Rattle.prefix_table.proofs.NodeKeys.{front_of, same_place}
use Rattle.prefix_model.proofs.Bitmaps.SlotLaws.{shifted_one}
use Rattle.prefix_table.proofs.node.reconstruct_repr.Goals as goal

pub overflow_add-len : goal.overflow_add-len
overflow_add-len g c =
    let within = c.requires.within _ c.level_of-level.ensures.place in
    let count = length-low_bits c.level_of-level.result (c.args.data_bit + 1 - 2 ^ c.level_of-level.result) in
    let limit = g.met.R.Bits.greatest_width_law in
    omega (arith, within, count, limit)

pub with_number-repr-requires-clause-within : goal.with_number-repr-requires-clause-within
with_number-repr-requires-clause-within g c =
    let within = c.requires.within _ c.level_of-level.ensures.place in
    let count = length-low_bits c.level_of-level.result (c.args.data_bit + 1 - 2 ^ c.level_of-level.result) in
    omega (arith, within, count)

pub returns-clause-key : goal.returns-clause-key
returns-clause-key g c = λ s here.
    let level = c.level_of-level.result in
    let number : c.args.data_bit + 1 - 1 * 2 ^ level % 4294967296 ≡ c.args.data_bit + 1 - 2 ^ level = ap (λ n. c.args.data_bit + 1 - n) (shifted_one level (let l = c.level_of-level.ensures.limit in omega (arith, l))) in
    let same = same_place _ _ _ c.level_of-level.ensures.place here in
    let whole = g.met.R.Bits.length_law c.args.key in
    let within = c.requires.within s here in
    ap (take (c.args.depth + level)) c.with_number-repr.ensures
    ∙ front_of (g.R.Bits.bits c.args.key) _ _ c.args.depth level (omega (arith, whole, within)) (length-low_bits level _)
    ∙ ap (λ mid. take c.args.depth (g.R.Bits.bits c.args.key) ++ mid) (ap (low_bits level) number ∙ same)

pub returns-clause-length : goal.returns-clause-length
returns-clause-length g c = λ s here.
    let same = same_place _ _ _ c.level_of-level.ensures.place here in
    ap (λ n. c.args.depth + n) (sym (length-low_bits c.level_of-level.result (c.args.data_bit + 1 - 2 ^ c.level_of-level.result)) ∙ ap length same)

pub returns-clause-fits : goal.returns-clause-fits
returns-clause-fits g c =
    let within = c.requires.within _ c.level_of-level.ensures.place in
    let count = length-low_bits c.level_of-level.result (c.args.data_bit + 1 - 2 ^ c.level_of-level.result) in
    omega (arith, within, count)

pub returns-clause-bits : goal.returns-clause-bits
returns-clause-bits g c =
    let level = c.level_of-level.result in
    let whole = g.met.R.Bits.length_law c.args.key in
    let within = c.requires.within _ c.level_of-level.ensures.place in
    let count = length-low_bits level (c.args.data_bit + 1 - 2 ^ level) in
    let front = ap (take (c.args.depth + level)) c.with_number-repr.ensures
    ∙ front_of (g.R.Bits.bits c.args.key) _ _ c.args.depth level (omega (arith, whole, within, count)) (length-low_bits level _) in
    c.with_number-repr.ensures
    ∙ sym (append_assoc (take c.args.depth (g.R.Bits.bits c.args.key)) _ _)
    ∙ ap (λ k. k ++ replicate (g.R.Bits.WIDTH - (c.args.depth + level)) false) (sym front)
