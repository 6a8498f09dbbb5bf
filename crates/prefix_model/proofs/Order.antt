-- The orders of keys are total, and keys that tie are equal.
use Rattle.std.specs.declared.cmp.Ordering.{Ordering}
use Rattle.std.specs.declared.cmp.Ordering.TheVariants.{Less, Equal, Greater}
use Rattle.std.specs.Ordering.{bool_cmp, nat_cmp, ordering_then, ordering_reverse}
use Rattle.std.specs.Cmp.{IsTotalOrder, bool_cmp_total, nat_cmp_total, then_total, on_total, tied_itself}
use Rattle.std.specs.Cmp.Lexicographic.{lists_total}
use Rattle.std.specs.FinMap.{IsAntisymmetric, slice_cmp-IsAntisymmetric}
use Rattle.std.proofs.Common.{◌≡◌, true, false, length, refl, ap, ◌∙◌}
use Rattle.prefix_model.specs.Keys.{key_cmp, shorter_first, KeyBits}

bool_exact : IsAntisymmetric bool_cmp
bool_exact true true e = refl
bool_exact true false e = cc
bool_exact false true e = cc
bool_exact false false e = refl

-- keys that tie are equal
pub key_exact : IsAntisymmetric key_cmp
key_exact = slice_cmp-IsAntisymmetric bool_exact

-- and any two keys are in order
pub key_total : IsTotalOrder key_cmp
key_total = lists_total bool_cmp_total

-- and so by length and then in key order
pub shorter_total : IsTotalOrder shorter_first
shorter_total = then_total (on_total length nat_cmp_total) key_total

then_parts : (o p : Ordering) → ordering_then o p ≡ Equal → (o ≡ Equal) × (p ≡ Equal)
then_parts Less p e = cc
then_parts Equal p e = (refl, e)
then_parts Greater p e = cc

-- the same by length and then in key order
pub shorter_exact : IsAntisymmetric shorter_first
shorter_exact k l e = key_exact k l (then_parts (nat_cmp (length k) (length l)) (key_cmp k l) e).1

pub turned : (k l : KeyBits) → key_cmp k l ≡ Less → key_cmp l k ≡ Greater
turned k l e = key_total.antisymm l k ∙ ap ordering_reverse e

pub itself : (k : KeyBits) → key_cmp k k ≡ Equal
itself k = tied_itself key_total k
