use Rattle.std.proofs.Common.{◌-◌, ◌*◌, ◌%◌, ◌^◌, bit_and, sym, subst}
use Rattle.prefix_model.specs.NodeSearches.{IsFromPlace}
use Rattle.prefix_model.proofs.Walking.FromNode.{from_itself_on, from_behind_on}
use Rattle.prefix_map.proofs.descent.from_place.Goals as goal

pub returns-then-inclusive : goal.returns-then-inclusive
returns-then-inclusive c = λ r is.
    subst (λ b. IsFromPlace b r c.lex_after_data-places.result.0 c.lex_after_data-places.result.1) (sym c.if-inclusive.true)
    (from_itself_on c.args.bit _ _ r is (c.lex_after_data-places.ensures.data_bits r is) (c.lex_after_data-places.ensures.child_bits r is))

pub returns-else-inclusive : goal.returns-else-inclusive
returns-else-inclusive c = λ r is.
    subst (λ b. IsFromPlace b r (bit_and c.lex_after_data-places.result.0 (4294967295 - 1 * 2 ^ c.args.bit % 4294967296)) c.lex_after_data-places.result.1) (sym c.if-inclusive.false)
    (from_behind_on c.args.bit _ _ r is (c.lex_after_data-places.ensures.data_bits r is) (c.lex_after_data-places.ensures.child_bits r is))
