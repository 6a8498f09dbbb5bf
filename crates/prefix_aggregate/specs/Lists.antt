-- Lists of values and of entries.
--     behind l      the values behind references
--     at s es      entries with the key s before each of theirs
--     NoneIsHole c      no list of candidates is empty: a hole is none
use Rattle.std.specs.Prelude.{◌<◌, List, ◌++◌, map, length, IfSome}
use Rattle.std.specs.Borrow.{Bor}
use Rattle.prefix_model.specs.Keys.{KeyBits}
use Rattle.prefix_model.specs.Candidates.{Candidates}

abbrev pub behind : {T : Type 0} → List (Bor T) → List T
behind l = map (λ r. r.now) l

abbrev pub at : {T : Type 0} → KeyBits → List (KeyBits × T) → List (KeyBits × T)
at s es = map (λ e. (s ++ e.0, e.1)) es

abbrev pub NoneIsHole : {V : Type 0} → Candidates V → Type 0
NoneIsHole c = IfSome c (λ l. 0 < length l)
