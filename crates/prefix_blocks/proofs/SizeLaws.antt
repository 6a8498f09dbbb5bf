-- The sizes of blocks.
use Rattle.std.specs.Prelude.{Bool, true, false, cond, ◌==◌, ◌≡◌, ◌≢◌, ℕ, ◌+◌, ◌^◌, ◌<◌, ◌≤◌}
use Rattle.std.proofs.Common.{refl, sym, ap, ◌∙◌, subst, arith}
use Rattle.std.proofs.lemmas.Bool.{le-leb, lt-leb, cases_lt}
use Rattle.std.proofs.Math.Logic.{⊎_elim}
use Rattle.std.proofs.Math.Nat.{eq-or-lt_of_le}
use Rattle.prefix_blocks.specs.Sizes.{order, size, cells_needed}

-- the order and the size of c items, which are more than `above` and at most 2 ^ k
pub record IsOrder (c above k : ℕ) : Type 0 where
  pub lower : above < c + 1
  pub upper : c ≤ 2 ^ k
  pub order_is : order c ≡ k
  pub size_is : size c ≡ 2 ^ k
  pub most : k < 6

order_one : (c : ℕ) → c ≤ 1 → IsOrder c 0 0
unfolding order size
order_one c h = record { lower = omega arith; upper = h; order_is = rw (le-leb c 1 h); size_is = rw (le-leb c 1 h); most = omega arith }

order_two : (c : ℕ) → 1 < c → c ≤ 2 → IsOrder c 2 1
unfolding order size
order_two c l h = record {
  lower = omega arith;
  upper = h;
  order_is = rw (lt-leb c 1 l, le-leb c 2 h);
  size_is = rw (lt-leb c 1 l, le-leb c 2 h);
  most = omega arith;
}

order_four : (c : ℕ) → 2 < c → c ≤ 4 → IsOrder c 3 2
unfolding order size
order_four c l h = record {
  lower = omega arith;
  upper = h;
  order_is = rw (lt-leb c 1 (omega arith), lt-leb c 2 l, le-leb c 4 h);
  size_is = rw (lt-leb c 1 (omega arith), lt-leb c 2 l, le-leb c 4 h);
  most = omega arith;
}

order_eight : (c : ℕ) → 4 < c → c ≤ 8 → IsOrder c 5 3
unfolding order size
order_eight c l h = record {
  lower = omega arith;
  upper = h;
  order_is = rw (lt-leb c 1 (omega arith), lt-leb c 2 (omega arith), lt-leb c 4 l, le-leb c 8 h);
  size_is = rw (lt-leb c 1 (omega arith), lt-leb c 2 (omega arith), lt-leb c 4 l, le-leb c 8 h);
  most = omega arith;
}

order_sixteen : (c : ℕ) → 8 < c → c ≤ 16 → IsOrder c 9 4
unfolding order size
order_sixteen c l h = record {
  lower = omega arith;
  upper = h;
  order_is = rw (lt-leb c 1 (omega arith), lt-leb c 2 (omega arith), lt-leb c 4 (omega arith), lt-leb c 8 l, le-leb c 16 h);
  size_is = rw (lt-leb c 1 (omega arith), lt-leb c 2 (omega arith), lt-leb c 4 (omega arith), lt-leb c 8 l, le-leb c 16 h);
  most = omega arith;
}

order_most : (c : ℕ) → 16 < c → c ≤ 32 → IsOrder c 17 5
unfolding order size
order_most c l h = record {
  lower = omega arith;
  upper = h;
  order_is = rw (lt-leb c 1 (omega arith), lt-leb c 2 (omega arith), lt-leb c 4 (omega arith), lt-leb c 8 (omega arith), lt-leb c 16 l);
  size_is = rw (lt-leb c 1 (omega arith), lt-leb c 2 (omega arith), lt-leb c 4 (omega arith), lt-leb c 8 (omega arith), lt-leb c 16 l);
  most = omega arith;
}

pub data Orders (c : ℕ) : Type 0 where
  of_one : IsOrder c 0 0 → Orders c
  of_two : IsOrder c 2 1 → Orders c
  of_four : IsOrder c 3 2 → Orders c
  of_eight : IsOrder c 5 3 → Orders c
  of_sixteen : IsOrder c 9 4 → Orders c
  of_most : IsOrder c 17 5 → Orders c

pub orders : (c : ℕ) → c ≤ 32 → Orders c
orders c most =
    ⊎_elim (λ one. ⊎_elim (λ two. ⊎_elim (λ four. ⊎_elim (λ eight. ⊎_elim (λ sixteen. of_most (order_most c sixteen most))
    (λ h. of_sixteen (order_sixteen c eight h)) (cases_lt 16 c))
    (λ h. of_eight (order_eight c four h)) (cases_lt 8 c))
    (λ h. of_four (order_four c two h)) (cases_lt 4 c))
    (λ h. of_two (order_two c one h)) (cases_lt 2 c))
    (λ h. of_one (order_one c h)) (cases_lt 1 c)

pub record HasSize (c : ℕ) : Type 0 where
  pub fits : c ≤ size c
  pub some : 0 < size c
  pub power : size c ≡ 2 ^ order c
  pub most : order c < 6

sized_of : (c above k : ℕ) → 0 < 2 ^ k → IsOrder c above k → HasSize c
sized_of c above k p o = record {
  fits = rw o.size_is o.upper;
  some = rw o.size_is p;
  power = o.size_is ∙ ap (λ n. 2 ^ n) (sym o.order_is);
  most = rw o.order_is o.most;
}

pub sized : (c : ℕ) → c ≤ 32 → HasSize c
sized c most = elim (orders c most) [
  | of_one o ↦ sized_of c 0 0 (omega arith) o
  | of_two o ↦ sized_of c 2 1 (omega arith) o
  | of_four o ↦ sized_of c 3 2 (omega arith) o
  | of_eight o ↦ sized_of c 5 3 (omega arith) o
  | of_sixteen o ↦ sized_of c 9 4 (omega arith) o
  | of_most o ↦ sized_of c 17 5 (omega arith) o
]

pub size_most : (c : ℕ) → c ≤ 32 → size c ≤ 32
size_most c most = elim (orders c most) [
  | of_one o ↦ (let e = o.size_is in omega (arith, e))
  | of_two o ↦ (let e = o.size_is in omega (arith, e))
  | of_four o ↦ (let e = o.size_is in omega (arith, e))
  | of_eight o ↦ (let e = o.size_is in omega (arith, e))
  | of_sixteen o ↦ (let e = o.size_is in omega (arith, e))
  | of_most o ↦ (let e = o.size_is in omega (arith, e))
]

-- the block of c items is full
pub record IsFull (c : ℕ) : Type 0 where
  pub size_is : size c ≡ c
  pub next_order : order (c + 1) ≡ order c + 1
  pub next : size (c + 1) ≡ c + c
  pub needed : cells_needed c ≡ c + c

full_one : IsFull 1
unfolding order size cells_needed
full_one = record { size_is = refl; next_order = refl; next = refl; needed = refl }

full_two : IsFull 2
unfolding order size cells_needed
full_two = record { size_is = refl; next_order = refl; next = refl; needed = refl }

full_four : IsFull 4
unfolding order size cells_needed
full_four = record { size_is = refl; next_order = refl; next = refl; needed = refl }

full_eight : IsFull 8
unfolding order size cells_needed
full_eight = record { size_is = refl; next_order = refl; next = refl; needed = refl }

full_sixteen : IsFull 16
unfolding order size cells_needed
full_sixteen = record { size_is = refl; next_order = refl; next = refl; needed = refl }

at_end : (c top : ℕ) → IsFull top → (c < top → order (c + 1) ≡ order c) → c ≤ top → order (c + 1) ≢ order c → IsFull c
at_end c top full below within grows =
    ⊎_elim (λ e. subst IsFull (sym e) full) (λ less. absurd (grows (below less))) (eq-or-lt_of_le within)

pub is_full : (c : ℕ) → 0 < c → c < 32 → order (c + 1) ≢ order c → IsFull c
is_full c some few grows = elim (orders c (omega arith)) [
  | of_one o ↦ at_end c 1 full_one (λ less. absurd (omega arith)) o.upper grows
  | of_two o ↦ at_end c 2 full_two (λ less. (order_two (c + 1) (let w = o.lower in omega arith) (omega arith)).order_is ∙ sym o.order_is) o.upper grows
  | of_four o ↦ at_end c 4 full_four (λ less. (order_four (c + 1) (let w = o.lower in omega arith) (omega arith)).order_is ∙ sym o.order_is) o.upper grows
  | of_eight o ↦ at_end c 8 full_eight (λ less. (order_eight (c + 1) (let w = o.lower in omega arith) (omega arith)).order_is ∙ sym o.order_is) o.upper grows
  | of_sixteen o ↦ at_end c 16 full_sixteen (λ less. (order_sixteen (c + 1) (let w = o.lower in omega arith) (omega arith)).order_is ∙ sym o.order_is) o.upper grows
  | of_most o ↦ absurd (grows ((order_most (c + 1) (let w = o.lower in omega arith) (omega arith)).order_is ∙ sym o.order_is))
]

-- a block that is not full keeps its size
pub same_size : (c : ℕ) → c < 32 → order (c + 1) ≡ order c → size (c + 1) ≡ size c
same_size c few e = (sized (c + 1) (omega arith)).power ∙ ap (λ n. 2 ^ n) e ∙ sym (sized c (omega arith)).power

pub size_of_one : size 1 ≡ 1
unfolding size
size_of_one = refl

pub size_of_none : size 0 ≡ 1
unfolding size
size_of_none = refl

pub needed_at_none : cells_needed 0 ≡ 1
unfolding cells_needed
needed_at_none = refl

pub order_one_or_none : (c : ℕ) → c ≤ 1 → 0 ≡ order c
order_one_or_none c h = sym (order_one c h).order_is

pub order_three_or_four : (c : ℕ) → 2 < c → c ≤ 4 → 2 ≡ order c
order_three_or_four c l h = sym (order_four c l h).order_is

pub order_to_eight : (c : ℕ) → 4 < c → c ≤ 8 → 3 ≡ order c
order_to_eight c l h = sym (order_eight c l h).order_is

pub order_to_sixteen : (c : ℕ) → 8 < c → c ≤ 16 → 4 ≡ order c
order_to_sixteen c l h = sym (order_sixteen c l h).order_is

pub order_to_most : (c : ℕ) → 16 < c → c ≤ 32 → 5 ≡ order c
order_to_most c l h = sym (order_most c l h).order_is

pub order_of_two : (c : ℕ) → c ≡ 2 → 1 ≡ order c
order_of_two c e = sym (order_two c (omega arith) (omega arith)).order_is

pub needed_most : (c : ℕ) → cells_needed c ≤ 32
unfolding cells_needed
needed_most c =
    most_of (c == 0) 1 _ (omega arith) (most_of (c == 1) 2 _ (omega arith) (most_of (c == 2) 4 _ (omega arith)
    (most_of (c == 4) 8 _ (omega arith) (most_of (c == 8) 16 _ (omega arith) (most_of (c == 16) 32 0 (omega arith) (omega arith))))))
  where
    most_of : (b : Bool) (x y : ℕ) → x ≤ 32 → y ≤ 32 → cond b x y ≤ 32
    most_of true x y h k = h
    most_of false x y h k = k
