-- Laws of an order and of a hash.
--     OrderAgrees eq cmp      values are equal exactly where the order answers Equal
--     HashAgrees eq input      equal values have one hash
use Rattle.std.specs.Prelude.{◌≡◌, ℕ, Bool, List, IsTrue}
use Rattle.std.specs.declared.cmp.Ordering.{Ordering}
use Rattle.std.specs.Ordering.{is_eq}

module _ {A : Type 0} where
  abbrev pub OrderAgrees : (A → A → Bool) → (A → A → Ordering) → Type 0
  OrderAgrees eq cmp = (x y : A) → eq x y ≡ is_eq (cmp x y)

  abbrev pub HashAgrees : (A → A → Bool) → (A → List (List ℕ)) → Type 0
  HashAgrees eq input = (x y : A) → IsTrue (eq x y) → input x ≡ input y
