-- What a read of a piece takes from the bytes that are left.
use Rattle.std.specs.Prelude.{◌≡◌, ℕ, ◌+◌, ◌<◌, ◌≤◌, List, [], ◌++◌, length, take, drop, min}
use Rattle.std.proofs.Common.{sym, ap, subst, ◌∙◌, arith, length-drop, length-take, take-append-drop}
use Rattle.std.proofs.lemmas.List.{nil_from_length}
use Rattle.std.proofs.Math.Seq.{drop-drop, take-append_seam}

-- the first n of a buffer to whose front n bytes were moved
front : (l buf : List ℕ) (n : ℕ) → n ≤ length l → take n (take n l ++ drop n buf) ≡ take n l
front l buf n h =
    let e : length (take n l) ≡ n = omega (arith, length-take {A = ℕ}) in
    subst (λ k. take k (take n l ++ drop n buf) ≡ take n l) e (take-append_seam (take n l) (drop n buf))

-- a read moves the first bytes that are left
pub moves : (bytes buf : List ℕ) (start n : ℕ) → n ≤ length (drop start bytes)
    → drop start bytes ≡ take n (take n (drop start bytes) ++ drop n buf) ++ drop (start + n) bytes
moves bytes buf start n h =
    rw (front (drop start bytes) buf n h) (sym (take-append-drop n (drop start bytes)) ∙ ap (λ t. take n (drop start bytes) ++ t) (drop-drop n start bytes))

-- a read that moves none is at the end
pub ends : (bytes : List ℕ) (start n piece room : ℕ) → 1 ≤ piece → 0 < room → n ≡ min (min piece room) (length (drop start bytes)) → n ≡ 0
    → drop (start + n) bytes ≡ []
ends bytes start n piece room p r e z = nil_from_length (drop (start + n) bytes) (omega (arith, length-drop {A = ℕ}))
