use Rattle.std.proofs.Common.{◌≡◌, ◌+◌, ◌-◌, ◌*◌, ◌%◌, ◌<◌, ◌^◌, ◌∙◌, ◌++◌, ap, sym, refl, arith, rules, append_assoc, map, [], ◌∷◌, bit_and}
use Rattle.std.specs.List.{filter}
use Rattle.std.proofs.lemmas.Nat.{and_le_l, or_lt}
use lib.Count.{count_leading_zeros}
use Rattle.prefix_model.specs.Masks.{set_bits}
use Rattle.prefix_model.proofs.Bitmaps.SetBits.{highest_taken, goes_last}
use Rattle.prefix_aggregate.specs.Nodes.{list_at, differs, kept_mask}
use Rattle.prefix_aggregate.specs.Stacks.{kept_lists}
use Rattle.prefix_aggregate.proofs.ConsistentLaws.{on_ok}
use Rattle.prefix_aggregate.proofs.KeepingLaws.{all_lists, all_weight, shown_small, mask_small, weight_left, lists_left, no_weight, no_lists, top_small}
use Rattle.prefix_aggregate.proofs.keeping.keep_lists.Goals as goal

pub loop-rest-init : goal.loop-rest-init
loop-rest-init g c =
    let vs = c.args.values.now in
    let lists = c.args.lists.now in
    let coverage = c.parent_coverage-coverage.result in
    let is = c.parent_coverage-coverage.ensures in
    let whole = all_weight g.T.Ord.cmp vs lists c.args.inner coverage is in
    let most : c.parent_coverage-coverage.result < 2 ^ 32 = search rules in
    let fits = or_lt 32 c.parent_coverage-coverage.result 1 most (omega arith) in
    record {
      small = shown_small g.T.Ord.cmp vs lists c.args.inner coverage is fits;
      stacked = c.requires.stacked;
      mask = omega (arith, whole);
      masks = refl;
      lists = ap (λ l. l ++ kept_lists c.args.stacks.now) (all_lists g.T.Ord.cmp vs lists c.args.inner coverage is);
    }

pub keep_place-requires-clause-place : goal.keep_place-requires-clause-place
keep_place-requires-clause-place g c = top_small c.loop-rest.rest c.loop-rest.invariant.small c.loop-rest-test.true

pub overflow_add-mask : goal.overflow_add-mask
overflow_add-mask g c =
    let vs = c.args.values.now in
    let lists = c.args.lists.now in
    let small = c.loop-rest.invariant.small in
    let fits : c.loop-rest.rest < 2 ^ 32 = omega (arith, small) in
    let taken = highest_taken c.loop-rest.rest fits c.loop-rest-test.true in
    let left = weight_left g.T.Ord.cmp vs lists c.args.inner c.loop-rest.rest _ _ taken in
    let mask = c.loop-rest.invariant.mask in
    let bit = c.in_ok-bit.ensures.bit in
    let most = mask_small g.T.Ord.cmp vs lists c.args.inner in
    omega (arith, left, mask, bit, most)

pub loop-rest-preserved : goal.loop-rest-preserved
loop-rest-preserved g c =
    let vs = c.args.values.now in
    let lists = c.args.lists.now in
    let rest = c.loop-rest.rest in
    let top = 31 - count_leading_zeros 32 c.loop-rest.rest in
    let fewer = bit_and c.loop-rest.rest (4294967295 - 1 * 2 ^ (31 - count_leading_zeros 32 c.loop-rest.rest) % 4294967296) in
    let small = c.loop-rest.invariant.small in
    let fits : c.loop-rest.rest < 2 ^ 32 = omega (arith, small) in
    let taken = highest_taken c.loop-rest.rest fits c.loop-rest-test.true in
    let left = weight_left g.T.Ord.cmp vs lists c.args.inner rest fewer top taken in
    let mask = c.loop-rest.invariant.mask in
    let bit = c.in_ok-bit.ensures.bit in
    let less = and_le_l c.loop-rest.rest (4294967295 - 1 * 2 ^ (31 - count_leading_zeros 32 c.loop-rest.rest) % 4294967296) in
    let keep = map (list_at vs lists) (filter (differs g.T.Ord.cmp vs lists) (set_bits fewer)) in
    let one = map (list_at vs lists) (filter (differs g.T.Ord.cmp vs lists) (top ∷ [])) in
    record {
      small = omega (arith, less, small);
      stacked = c.in_ok-bit.ensures.stacked;
      mask = omega (arith, left, mask, bit);
      masks = c.in_ok-bit.ensures.masks ∙ c.loop-rest.invariant.masks;
      lists = ap (λ l. keep ++ l) c.in_ok-bit.ensures.lists ∙ sym (append_assoc keep one (kept_lists c.loop-rest.stacks))
          ∙ ap (λ l. l ++ kept_lists c.loop-rest.stacks) (sym (lists_left g.T.Ord.cmp vs lists c.args.inner rest fewer top taken)) ∙ c.loop-rest.invariant.lists;
    }

pub loop-rest-smaller : goal.loop-rest-smaller
loop-rest-smaller g c =
    let small = c.loop-rest.invariant.small in
    let fits : c.loop-rest.rest < 2 ^ 32 = omega (arith, small) in
    goes_last _ _ _ (highest_taken c.loop-rest.rest fits c.loop-rest-test.true)

pub returns-clause-masks : goal.returns-clause-masks
returns-clause-masks g c =
    let none = no_weight g.T.Ord.cmp c.args.values.now c.args.lists.now c.args.inner c.loop-rest.rest c.loop-rest-test.false in
    let mask = c.loop-rest.invariant.mask in
    let word : c.loop-rest.mask ≡ kept_mask g.T.Ord.cmp c.args.values.now c.args.lists.now c.args.inner = omega (arith, none, mask) in
    on_ok c.add_mask.result c.add_mask.ensures.masks (λ e. e ∙ (λ i. c.loop-rest.invariant.masks i ++ word i ∷ []))

pub returns-clause-lists : goal.returns-clause-lists
returns-clause-lists g c =
    on_ok c.add_mask.result c.add_mask.ensures.lists (λ e. e
    ∙ sym (ap (λ l. l ++ kept_lists c.loop-rest.stacks) (no_lists g.T.Ord.cmp c.args.values.now c.args.lists.now c.args.inner c.loop-rest.rest c.loop-rest-test.false)) ∙ c.loop-rest.invariant.lists)
