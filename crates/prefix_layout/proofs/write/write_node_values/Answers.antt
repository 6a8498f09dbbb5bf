use Rattle.std.proofs.Common.{◌≡◌, ◌<◌, refl, sym, ap, ◌∙◌, subst}
use Rattle.std.specs.Prelude.{IsBitSet}
use Rattle.std.specs.List.{AllByRecursion}
use Rattle.std.specs.FinMap as map
use Rattle.std.proofs.lemmas.Result.{err_from_is_err_and}
use Rattle.prefix_model.specs.Masks.{set_bits}
use Rattle.prefix_model.specs.TableViews.{position_at}
use Rattle.prefix_layout.specs.Writing.{node_values}
use Rattle.prefix_layout.proofs.Writing.{none_written, failed, stopped, more_written, same_written, all_written}
use Rattle.prefix_layout.proofs.SetBits.{values_at, values_named, places_set, place_found, value_first}
use Rattle.prefix_layout.proofs.write.write_node_values.Goals as goal

pub loop-bit-init : goal.loop-bit-init
loop-bit-init g c =
    let codec = g.T.ValueCodec.codec in
    let f = map.get c.args.table.now.entries in
    let at = position_at c.args.table.now c.args.at in
    let rest : c.into_iter-bit-iterator.result ≡ set_bits c.args.data_bits = cc in
    record {
      can_next = tt;
      is_finite = tt;
      each = subst (AllByRecursion (λ b. (b < 31) × IsBitSet c.args.data_bits b)) (sym rest) (places_set f at c.args.data_bits c.requires.bits);
      written =
          same_written _ c.args.out.now.items _ _ (node_values codec f at) _ (none_written c.args.out.now.items (node_values codec f at))
          (values_named f at c.args.data_bits c.requires.bits codec ∙ ap (values_at codec f at) (sym rest)) refl;
    }

pub value-requires-clause-set : goal.value-requires-clause-set
value-requires-clause-set g c = subst (λ n. IsBitSet n c.in-Some.bit) c.requires.bits (subst (AllByRecursion (λ b. (b < 31) × IsBitSet c.args.data_bits b)) c.in-Some.ensures.steps c.loop-bit.invariant.each).0.1

pub returns-in_err-write_value : goal.returns-in_err-write_value
returns-in_err-write_value g c =
    let p = err_from_is_err_and c.from_residual.result c.from_residual.ensures.1 in
    failed c.from_residual.result p.0 _ _ _ p.1 (stopped _ _ _ _ _ c.loop-bit.invariant.written c.in_err-write_value.ensures)

pub loop-bit-preserved : goal.loop-bit-preserved
loop-bit-preserved g c =
    let codec = g.T.ValueCodec.codec in
    let f = map.get c.args.table.now.entries in
    let at = position_at c.args.table.now c.args.at in
    let b = c.in-Some.bit in
    let each = subst (AllByRecursion (λ b. (b < 31) × IsBitSet c.args.data_bits b)) c.in-Some.ensures.steps c.loop-bit.invariant.each in
    record {
      can_next = tt;
      is_finite = tt;
      each = each.1;
      written =
          more_written _ c.loop-bit.out.items _ (codec.spell c.value.result.now) _ _ _ c.loop-bit.invariant.written
          (ap (values_at codec f at) c.in-Some.ensures.steps ∙ value_first codec f at b c.next.new.self c.value.result.now (c.value.ensures _ (place_found b each.0.0))) c.in_ok-write_value.ensures;
    }

pub returns : goal.returns
returns g c =
    let codec = g.T.ValueCodec.codec in
    let f = map.get c.args.table.now.entries in
    let at = position_at c.args.table.now c.args.at in
    all_written _ _ _ (same_written _ _ _ _ _ _ c.loop-bit.invariant.written (ap (values_at codec f at) c.in-None.ensures.steps.0) refl)
