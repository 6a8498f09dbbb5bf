use Rattle.std.proofs.Common.{◌-◌, ◌<◌, ◌^◌, take, drop, arith, length-take}
use Rattle.prefix_model.specs.Keys.{number}
use Rattle.prefix_model.proofs.KeyPlaces.{part-lt}
use Rattle.prefix_table.proofs.TrieErases.{key_cleared, key_absent}
use Rattle.prefix_table.proofs.trie.clear_key.Goals as goal

pub clear_below-requires-clause-position : goal.clear_below-requires-clause-position
clear_below-requires-clause-position g c =
    let bits = g.R.Bits.bits c.args.key in
    let whole = g.met.R.Bits.length_law c.args.key in
    let size = length-take c.way_to-end.result.depth bits in
    let from = c.way_to-end.ensures.from in
    let width = c.requires.width in
    (take c.way_to-end.result.depth bits, c.way_to-end.ensures.here, omega (arith, size, whole, from, width))

pub clear_below-requires-clause-path : goal.clear_below-requires-clause-path
clear_below-requires-clause-path g c =
    let bits = g.R.Bits.bits c.args.key in
    let d = c.way_to-end.result.depth in
    let from = c.way_to-end.ensures.from in
    let small : number (drop d (take c.args.bits bits)) < 2 ^ (c.args.bits - d) = part-lt bits d c.args.bits (c.args.bits - d) (omega (arith, from)) in
    rw c.bits_between-path.ensures small

pub returns-then-bits-end-lt5-clause-cleared : goal.returns-then-bits-end-lt5-clause-cleared
returns-then-bits-end-lt5-clause-cleared g c =
    let bits = g.R.Bits.bits c.args.key in
    let whole = g.met.R.Bits.length_law c.args.key in
    let width = c.requires.width in
    let short = c.if-bits-end-lt5.true in
    key_cleared c.args.trie.now c.clear_below.new.trie c.requires.trie bits c.args.bits c.way_to-end.result.at c.way_to-end.result.depth c.bits_between-path.result (omega (arith, whole, width)) c.way_to-end.ensures (omega (arith, short)) c.bits_between-path.ensures c.clear_below.ensures.cleared

pub returns-else-bits-end-lt5-clause-cleared : goal.returns-else-bits-end-lt5-clause-cleared
returns-else-bits-end-lt5-clause-cleared g c =
    let bits = g.R.Bits.bits c.args.key in
    let whole = g.met.R.Bits.length_law c.args.key in
    let width = c.requires.width in
    let deep = c.if-bits-end-lt5.false in
    key_absent c.args.trie.now c.requires.trie bits c.args.bits c.way_to-end.result.at c.way_to-end.result.depth (omega (arith, whole, width)) c.way_to-end.ensures (omega (arith, deep))
