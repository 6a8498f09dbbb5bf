-- Two keys in key order, bit by bit.
use Rattle.std.proofs.Common.{◌≡◌, ℕ, zero, suc, ◌+◌, ◌<◌, ◌≤◌, Bool, [], ◌∷◌, length, take, drop, Some, refl, sym, ap, ◌∙◌, arith}
use Rattle.std.specs.Prelude.{slice_get}
use Rattle.std.specs.declared.cmp.Ordering.{Ordering}
use Rattle.std.specs.declared.cmp.Ordering.TheVariants.{Less, Equal, Greater}
use Rattle.std.specs.Ordering.{bool_cmp, ordering_then}
use Rattle.prefix_model.specs.Keys.{KeyBits, key_cmp}
use Rattle.prefix_model.proofs.KeyPieces.{drop_next}

all_taken : (bits : KeyBits) (n : ℕ) → drop n (take n bits) ≡ []
all_taken [] zero = refl
all_taken [] (suc n) = refl
all_taken (b ∷ bits) zero = refl
all_taken (b ∷ bits) (suc n) = all_taken bits n

longer : (bits : KeyBits) (i n : ℕ) → i < n → n ≤ length bits → key_cmp [] (drop i (take n bits)) ≡ Less
longer [] i n lt le = absurd (omega arith)
longer (b ∷ bits) i zero lt le = absurd (omega arith)
longer (b ∷ bits) zero (suc n) lt le = refl
longer (b ∷ bits) (suc i) (suc n) lt le = longer bits i n (omega arith) (omega arith)

shorter : (bits : KeyBits) (i n : ℕ) → i < n → n ≤ length bits → key_cmp (drop i (take n bits)) [] ≡ Greater
shorter [] i n lt le = absurd (omega arith)
shorter (b ∷ bits) i zero lt le = absurd (omega arith)
shorter (b ∷ bits) zero (suc n) lt le = refl
shorter (b ∷ bits) (suc i) (suc n) lt le = shorter bits i n (omega arith) (omega arith)

module _ (a b : KeyBits) (m n i : ℕ) where
  pub both_end : i ≡ m → i ≡ n → Equal ≡ key_cmp (drop i (take m a)) (drop i (take n b))
  both_end e f = sym ((λ j. key_cmp (drop (e j) (take m a)) (drop (f j) (take n b))) ∙ (λ j. key_cmp (all_taken a m j) (all_taken b n j)))

  pub first_ends : i ≡ m → i < n → n ≤ length b → Less ≡ key_cmp (drop i (take m a)) (drop i (take n b))
  first_ends e lt le = sym (ap (λ x. key_cmp x (drop i (take n b))) (ap (λ j. drop j (take m a)) e ∙ all_taken a m) ∙ longer b i n lt le)

  pub second_ends : i ≡ n → i < m → m ≤ length a → Greater ≡ key_cmp (drop i (take m a)) (drop i (take n b))
  second_ends e lt le = sym (ap (λ y. key_cmp (drop i (take m a)) y) (ap (λ j. drop j (take n b)) e ∙ all_taken b n) ∙ shorter a i m lt le)

  pub by_bits : (x y : Bool) → slice_get a i ≡ Some x → slice_get b i ≡ Some y → i < m → i < n → ordering_then (bool_cmp x y) (key_cmp (drop (i + 1) (take m a)) (drop (i + 1) (take n b))) ≡ key_cmp (drop i (take m a)) (drop i (take n b))
  by_bits x y ex ey lx ly = sym (λ j. key_cmp (drop_next a i m x ex lx j) (drop_next b i n y ey ly j))

  pub by_order : (o : Ordering) (x y : Bool) → o ≡ bool_cmp x y → slice_get a i ≡ Some x → slice_get b i ≡ Some y → i < m → i < n → ordering_then o (key_cmp (drop (i + 1) (take m a)) (drop (i + 1) (take n b))) ≡ key_cmp (drop i (take m a)) (drop i (take n b))
  by_order o x y e ex ey lx ly = ap (λ q. ordering_then q (key_cmp (drop (i + 1) (take m a)) (drop (i + 1) (take n b)))) e ∙ by_bits x y ex ey lx ly
