use Rattle.std.proofs.Common.{take, ap}
use Rattle.std.specs.Prelude.{is_some}
use Rattle.std.specs.FinMap as map
use Rattle.prefix_table.specs.Records.{node_record}
use Rattle.prefix_model.proofs.Walking.Chosen.{first_place_is, no_place}
use Rattle.prefix_archive.proofs.Descents.{place_of}
use Rattle.prefix_archive.proofs.descent.first_at_places.Goals as goal

pub returns-then-places-eq0-clause-first : goal.returns-then-places-eq0-clause-first
returns-then-places-eq0-clause-first g c = no_place (map.get c.args.archive.now.table.entries) (take c.args.depth (g.P.R.Bits.bits c.args.key)) c.args.places c.if-places-eq0.true

pub first_place-bit-requires-clause-placed : goal.first_place-bit-requires-clause-placed
first_place-bit-requires-clause-placed g c = λ b e.
    ap is_some (place_of c.args.archive.now.table.entries (take c.args.depth (g.P.R.Bits.bits c.args.key)) (node_record c.args.node.now) c.requires.node b (c.requires.places b e)).1

pub found_at-requires-clause-set : goal.found_at-requires-clause-set
found_at-requires-clause-set g c = c.requires.places c.first_place-bit.result c.first_place-bit.ensures.set

pub returns-else-places-eq0-clause-first : goal.returns-else-places-eq0-clause-first
returns-else-places-eq0-clause-first g c =
    let m = c.args.archive.now.table.entries in
    let p = take c.args.depth (g.P.R.Bits.bits c.args.key) in
    let bit = c.first_place-bit.result in
    let found = c.found_at.result in
    let k = place_of m p (node_record c.args.node.now) c.requires.node bit (c.requires.places bit c.first_place-bit.ensures.set) in
    first_place_is (map.get m) p c.args.places bit k.0 (take found.len (g.P.R.Bits.bits found.key), found.value.spelling.value) k.1 c.first_place-bit.ensures.set
    (λ b t is e. c.first_place-bit.ensures.first b k.0 t k.1 is e) (c.found_at.ensures.key k.0 k.1) c.found_at.ensures.stored
