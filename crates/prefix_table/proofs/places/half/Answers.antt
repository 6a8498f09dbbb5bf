use Rattle.std.proofs.Common.{arith, ap, sym, ◌∙◌, ◌++◌, ◌+◌, ◌*◌, ◌%◌, length}
use Rattle.prefix_model.specs.Keys.{KeyBits, low_bits}
use Rattle.prefix_model.specs.TableViews.{position_at, stored_from}
use Rattle.std.specs.Prelude.{is_some}
use Rattle.prefix_table.proofs.PlaceLaws.{number_grows, half_key, slot_key}
use Rattle.prefix_model.proofs.TablePositions.{slot_length, node_named, root_key, none_from}
use Rattle.prefix_table.proofs.places.half.Goals as goal

pub is_bare-requires-clause-place : goal.is_bare-requires-clause-place
is_bare-requires-clause-place g c = record {
  named = c.requires.place.named;
  node = c.requires.place.node;
  level = omega arith;
  number = number_grows _ _ _ c.requires.place.number c.requires.bit;
}

pub returns-then-is_bare-clause-place : goal.returns-then-is_bare-clause-place
returns-then-is_bare-clause-place g c = λ q.
    let key = half_key (position_at c.args.table.now c.args.place.now.at) c.args.place.now.level c.args.place.now.number c.args.bit c.requires.bit in
    ap (λ s. stored_from c.args.table.now s q) (sym key) ∙ c.is_bare.ensures c.if-is_bare.true q

pub returns-else-is_bare-clause-valid : goal.returns-else-is_bare-clause-valid
returns-else-is_bare-clause-valid g c = record {
  named = c.requires.place.named;
  node = c.requires.place.node;
  level = omega arith;
  number = number_grows _ _ _ c.requires.place.number c.requires.bit;
}

pub returns-else-is_bare-clause-place : goal.returns-else-is_bare-clause-place
returns-else-is_bare-clause-place g c = half_key _ _ _ _ c.requires.bit

pub returns-in-Some-clause-valid : goal.returns-in-Some-clause-valid
returns-in-Some-clause-valid g c = record {
  named = ap is_some c.in-Some.ensures;
  node = ap (λ q. length q % 5) (node_named c.args.table.now _ _ c.in-Some.ensures) ∙ slot_length _ _ c.requires.place.node;
  level = omega arith;
  number = omega arith;
}

pub returns-in-Some-clause-place : goal.returns-in-Some-clause-place
returns-in-Some-clause-place g c = root_key c.args.table.now _ _ c.in-Some.ensures ∙ slot_key _ _ _ _ c.requires.place.level c.if-place-lt4.false c.requires.bit

pub returns-in-None-clause-place : goal.returns-in-None-clause-place
returns-in-None-clause-place g c = λ q.
    let p : KeyBits = position_at c.args.table.now c.args.place.now.at in
    let key = slot_key p _ _ _ c.requires.place.level c.if-place-lt4.false c.requires.bit in
    ap (λ s. stored_from c.args.table.now s q) (sym key)
    ∙ none_from c.args.table.now c.requires.holds (p ++ low_bits 5 (2 * c.args.place.now.number + c.args.bit)) (slot_length p _ c.requires.place.node) c.in-None.ensures q
