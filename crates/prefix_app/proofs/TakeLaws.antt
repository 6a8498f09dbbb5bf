-- Bytes that were taken in two parts.
use Rattle.std.proofs.Common.{◌≡◌, ◌↔◌, ℕ, ◌+◌, ◌≤◌, List, [], ◌++◌, length, Option, None, Some, refl, append_assoc, append-nil, length-append, ◌∙◌, ap, sym, arith, Result, Ok, Err, IsErrAnd}
use Rattle.prefix_app.specs.Told.{ReadsAll, TakesThen}

-- what was taken before and what was taken then
pub takes_join : (old mid new : Option (List ℕ)) (P Q R : List ℕ → List ℕ → Type 0) → TakesThen old mid P → TakesThen mid new Q → ((t u r s : List ℕ) → P t r → Q u s → R (t ++ u) s) → TakesThen old new R
takes_join None mid new P Q R before now both = tt
takes_join (Some bytes) None new P Q R before now both = absurd before
takes_join (Some bytes) (Some r) None P Q R before now both = absurd now
takes_join (Some bytes) (Some r) (Some s) P Q R (t, e, p) (u, f, q) both = (t ++ u, e ∙ rw append_assoc (ap (λ x. t ++ x) f), both t u r s p q)

-- nothing was taken
pub takes_none : (told : Option (List ℕ)) → TakesThen told told (λ taken _. [] ≡ taken)
takes_none None = tt
takes_none (Some bytes) = ([], refl, refl)

-- all was taken, where nothing was left
pub takes_whole : (old mid new : Option (List ℕ)) (all : List ℕ) → TakesThen old mid (λ taken _. all ≡ taken) → ReadsAll mid new [] → ReadsAll old new all
takes_whole None mid new all before end = tt
takes_whole (Some bytes) None new all before end = absurd before
takes_whole (Some bytes) (Some r) None all before end = absurd end
takes_whole (Some bytes) (Some r) (Some s) all (t, e, p) (f, n) = (e ∙ (ap (λ x. t ++ x) f ∙ (append-nil t ∙ sym p)), n)

-- the count of what was taken before and then
pub counts_join : (all t u : List ℕ) (n most : ℕ) (A B : Type 0) → n ≡ length all → all ≡ t → (A → B) → (B → A) → n + length u ≤ most → B ↔ (n + length u ≡ most) → (length (t ++ u) ≤ most) × (A ↔ (length (t ++ u) ≡ most))
counts_join all t u n most A B e f to from within tells =
    let k : n + length u ≡ length (t ++ u) = omega (arith, length-append t u, ap length f) in
    (omega (arith, k), ((λ a. omega (arith, k, tells.0 (to a))), (λ h. from (tells.1 (omega (arith, k, h))))))

pub ok_is_no_error : {T E : Type 0} {x : T} {e : E} → ◌≡◌ {A = Result T E} (Ok x) (Err e) → ⊥
ok_is_no_error h = cc

pub error_is : {T E : Type 0} (r : Result T E) {e : E} → IsErrAnd r (λ x. x ≡ e) → r ≡ Err e
error_is (Ok x) h = absurd h
error_is (Err x) h = ap Err h

pub err_same : {T E : Type 0} {d e : E} → ◌≡◌ {A = Result T E} (Err d) (Err e) → d ≡ e
err_same h = cc
