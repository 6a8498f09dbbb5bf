-- The values that may stand at a key, such that no table with the same answers needs fewer entries at and below it.
-- These are the sets of the second pass of ORTC, from the addresses up, with one choice: where an address has no answer, no key above it has a candidate.
--     Candidates V      none at a hole, or else an ascending list of values
--     candidates cmp n f      the candidates of a key with n bits to go, where f tells the answers by what follows the key
--     joined cmp c d      the candidates of a key by those of its halves
--     both_or_either cmp a b      what both lists have, and where that is nothing, what either has
--     intersection, union, added, has      of ascending lists without repeats, by the order cmp
--     least l      the first of a list
--     offers cmp l v      whether what is inherited is a candidate
use Rattle.std.specs.Prelude.{ℕ, zero, suc, Bool, true, false, List, [], ◌∷◌, Option, Some, None}
use Rattle.std.specs.Option.{option_map}
use Rattle.std.specs.declared.cmp.Ordering.{Ordering}
use Rattle.std.specs.Ordering.{eq_by_cmp, match_ordering}
use Rattle.std.specs.List.{list_any, filter}
use Rattle.prefix_model.specs.Tables.{Values, after}

-- none at a hole: where an address at or below the key has no answer
abbrev pub Candidates : Type 0 → Type 0
Candidates V = Option (List V)

-- the first of an ascending list
abbrev pub least : {V : Type 0} → List V → Option V
least [] = None
least (x ∷ l) = Some x

abbrev pub only : {V : Type 0} → V → List V
only x = x ∷ []

abbrev pub unless_empty : {V : Type 0} → List V → List V → List V
unless_empty [] d = d
unless_empty (x ∷ l) d = x ∷ l

module _ {V : Type 0} (cmp : V → V → Ordering) where
  abbrev pub has : List V → V → Bool
  has l x = list_any (eq_by_cmp cmp x) l

  -- the values of a that b has too
  abbrev pub intersection : List V → List V → List V
  intersection a b = filter (has b) a

  -- x at its place in an ascending list, where it is not there yet
  abbrev pub added : V → List V → List V
  added x [] = x ∷ []
  added x (y ∷ l) = match_ordering (cmp x y) (x ∷ y ∷ l) (y ∷ l) (y ∷ added x l)

  abbrev pub union : List V → List V → List V
  union [] b = b
  union (x ∷ a) b = added x (union a b)

  -- what both halves have, and where that is nothing, what either has
  unfoldable pub both_or_either : List V → List V → List V
  both_or_either a b = unless_empty (intersection a b) (union a b)

  abbrev pub joined : Candidates V → Candidates V → Candidates V
  joined None d = None
  joined (Some a) None = None
  joined (Some a) (Some b) = Some (both_or_either a b)

  -- At an address, the one answer. Above, a hole in either half is a hole, and else the halves agree on what both have, where they have something in common.
  abbrev pub candidates : ℕ → Values V → Candidates V
  candidates zero f = option_map only (f [])
  candidates (suc n) f = joined (candidates n (after false f)) (candidates n (after true f))

  -- whether an inherited value is a candidate
  unfoldable pub offers : List V → Option V → Bool
  offers l None = false
  offers l (Some x) = has l x
