-- A codec of two values, for tests.
--     flag_codec      one byte: 0 for false and 1 for true
--     flag_lawful, flags_apart      the codec is lawful;  and the order tells its values apart
use Rattle.std.specs.Prelude.{◌≡◌, ℕ, zero, suc, ◌==◌, Bool, true, false, cond, List, [], ◌∷◌, get_or}
use Rattle.std.proofs.Common.{refl, lit<, subst, sym}
use Rattle.std.specs.declared.cmp.Ordering.{Ordering}
use Rattle.std.specs.declared.cmp.Ordering.TheVariants.{Equal}
use Rattle.std.specs.Ordering.{bool_cmp}
use Rattle.prefix_model.specs.Spelling.{Codec, IsBytes, HasSpelling, IsLawful}

abbrev pub flag_accepts : List ℕ → Bool
flag_accepts (zero ∷ []) = true
flag_accepts (suc zero ∷ []) = true
flag_accepts _ = false

abbrev pub flag_codec : Codec Bool
flag_codec = record { size = 1; spell = λ b. cond b 1 0 ∷ []; accepted = flag_accepts; read = λ bytes. get_or bytes 0 0 == 1 }

abbrev Holds : Bool → Type 0
Holds true = Unit {0}
Holds false = ⊥

abbrev IsEqual : Ordering → Type 0
IsEqual Equal = Unit {0}
IsEqual _ = ⊥

zero_byte : IsBytes (0 ∷ [])
zero_byte zero = lit< tt
zero_byte (suc i) = lit< tt

one_byte : IsBytes (1 ∷ [])
one_byte zero = lit< tt
one_byte (suc i) = lit< tt

flag_spelled : (b : Bool) → HasSpelling flag_codec b
flag_spelled true = record { len = refl; bytes = one_byte; accepted = refl; again = refl }
flag_spelled false = record { len = refl; bytes = zero_byte; accepted = refl; again = refl }

pub flag_lawful : IsLawful flag_codec
flag_lawful [] fits len ok = absurd (subst Holds (sym ok) tt)
flag_lawful (zero ∷ []) fits len ok = (flag_spelled false, refl)
flag_lawful (suc zero ∷ []) fits len ok = (flag_spelled true, refl)
flag_lawful (suc (suc b) ∷ []) fits len ok = absurd (subst Holds (sym ok) tt)
flag_lawful (zero ∷ (b ∷ bytes)) fits len ok = absurd (subst Holds (sym ok) tt)
flag_lawful (suc zero ∷ (b ∷ bytes)) fits len ok = absurd (subst Holds (sym ok) tt)
flag_lawful (suc (suc a) ∷ (b ∷ bytes)) fits len ok = absurd (subst Holds (sym ok) tt)

pub flags_apart : (a b : Bool) → bool_cmp a b ≡ Equal → a ≡ b
flags_apart true true e = refl
flags_apart false false e = refl
flags_apart true false e = absurd (subst IsEqual (sym e) tt)
flags_apart false true e = absurd (subst IsEqual (sym e) tt)
