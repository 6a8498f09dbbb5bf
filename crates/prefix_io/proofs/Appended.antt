-- What writes append, one after another.
use Rattle.std.specs.Prelude.{◌≡◌, ℕ, ◌+◌, ◌-◌, List, ◌++◌, length, take, drop, Option, None, Some}
use Rattle.std.proofs.Common.{sym, ap, ◌∙◌, append_assoc, length-drop}
use Rattle.std.proofs.Math.Seq.{take-add, take-length}
use Rattle.std.specs.Io.KnownBytes.{Appends}

-- bytes from place k on, read through the range that ends with them
rest_of : (bs : List ℕ) (k : ℕ) → take (length bs - k) (drop k bs) ≡ drop k bs
rest_of bs k = rw (sym (length-drop k bs)) (take-length (drop k bs))

-- a write of n bytes from place k on, after writes of the bytes up to there
pub grown : (old mid new : Option (List ℕ)) (bs : List ℕ) (k n : ℕ) → Appends old mid (take k bs)
    → Appends mid new (take n (take (length bs - k) (drop k bs))) → Appends old new (take (k + n) bs)
grown None mid new bs k n before now = tt
grown (Some xs) None new bs k n before now = absurd before
grown (Some xs) (Some ys) None bs k n before now = absurd now
grown (Some xs) (Some ys) (Some zs) bs k n before now =
    now ∙ (ap (λ t. t ++ take n (take (length bs - k) (drop k bs))) before
    ∙ (append_assoc xs (take k bs) (take n (take (length bs - k) (drop k bs)))
    ∙ ap (λ t. xs ++ t) (ap (λ t. take k bs ++ take n t) (rest_of bs k) ∙ sym (take-add k n bs))))
