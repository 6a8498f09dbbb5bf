-- Steps of a node in the first walk.
use Rattle.std.specs.Prelude.{OnOk, IsSome, is_some, slice_get, set, IsBitSet}
use Rattle.std.specs.Int.{bit_at}
use Rattle.std.specs.Option.{option_or, option_map}
use Rattle.std.specs.FinMap as map
use Rattle.std.specs.Borrow.{Bor}
use Rattle.std.specs.List.Sorted.{IsStrictlySortedBy}
use Rattle.std.specs.declared.cmp.Ordering.{Ordering}
use Rattle.std.proofs.Common.{◌≡◌, ◌≢◌, inl, inr, ℕ, ◌/◌, ◌%◌, ◌^◌, ◌<◌, ◌≤◌, Bool, cond, List, [], ◌∷◌, ◌++◌, length, Option, Some, None, Result, Ok, Err, refl, sym, ap, ◌∙◌, subst, arith, rules, bit_and}
use Rattle.std.proofs.lemmas.List.{get_or-set_same, get_or-set_other}
use Rattle.std.proofs.lemmas.Nat.Bits.{shr_and_one}
use Rattle.prefix_model.specs.Keys.{KeyBits}
use Rattle.prefix_model.specs.Tables.{Values, after, answer_under}
use Rattle.prefix_model.specs.Positions.{data_places, data_bits}
use Rattle.prefix_model.specs.Candidates.{least, only}
use Rattle.prefix_model.specs.TableViews.{TableView, position_at, HoldsPositions}
use Rattle.prefix_model.proofs.MaskBits.{bitmap_bit}
use Rattle.prefix_model.proofs.Bitmaps.PlaceBits.{set_from}
use Rattle.prefix_model.proofs.TablePositions.{node_named}
use Rattle.prefix_aggregate.specs.Parts.{as_candidates, values_of, told, IsPart, IsOneValue, KeepsParts}
use Rattle.prefix_aggregate.specs.Nodes.{part_at, list_at}
use Rattle.prefix_aggregate.specs.Trees.{given, IsGiven}
use Rattle.prefix_aggregate.specs.Collecting.{AreParts}
use Rattle.prefix_aggregate.specs.declared.parts.Part.{Part}
use Rattle.prefix_aggregate.proofs.Numbers.{nat_same}
use Rattle.prefix_aggregate.proofs.PartLaws.{part_kept, told_kept, is_part_kept, length_kept, length-values}

-- ---- the bit of a value

module _ {T : Type 0} (get : KeyBits → Option T) (p : KeyBits) (bits b : ℕ) (e : bits ≡ data_bits get p) where
  pub value_set : bit_and (bits / 2 ^ b) 1 ≡ 1 → IsBitSet (data_bits get p) b
  value_set set = set_from (data_bits get p) b (ap (λ n. bit_at n b) (sym e) ∙ sym (shr_and_one bits b) ∙ set)

  pub value_clear : bit_and (bits / 2 ^ b) 1 ≢ 1 → (s : KeyBits) → slice_get data_places b ≡ Some s → get (p ++ s) ≡ None
  value_clear clear s named = none (get (p ++ s)) (λ one. clear (shr_and_one bits b ∙ ap (λ n. bit_at n b) e ∙ bitmap_bit data_places (λ s. is_some (get (p ++ s))) b s named ∙ one))
    where
      none : (o : Option T) → ◌≢◌ {A = ℕ} (cond (is_some o) 1 0) 1 → o ≡ None
      none None n = refl
      none (Some x) n = absurd (n refl)

-- ---- one value or none

module _ {T : Type 0} where
  pub one_given : (vs : List (Bor T)) (part : Part) (x : T) → IsOneValue vs part x → IsGiven vs part
  one_given vs part x one = record { within = one.within; single = (let s = one.single in omega (arith, s)) }

  pub one_value : (vs : List (Bor T)) (part : Part) (x : T) (o v : Option T) → IsOneValue vs part x → o ≡ Some x → given vs part ≡ option_or o v
  one_value vs part x o v one e = ap least one.values ∙ ap (λ o. option_or o v) (sym e)

  pub given_kept : (old new : List (Bor T)) (part : Part) → KeepsParts old new → IsGiven old part → IsGiven new part
  given_kept old new part kept is = record { within = (let w = is.within in let m = length_kept old new kept in omega (arith, w, m)); single = is.single }

  pub same_given : (old new : List (Bor T)) (part : Part) → KeepsParts old new → IsGiven old part → given new part ≡ given old part
  same_given old new part kept is = ap least (part_kept old new part kept is.within)

  pub given_part : (cmp : T → T → Ordering) (vs : List (Bor T)) (part : Part) → IsGiven vs part → IsPart cmp vs part
  unfolding IsStrictlySortedBy
  given_part cmp vs part is = record { within = is.within; ascends = few (values_of vs part) (let n = length-values vs part.start part.len is.within in let s = is.single in omega (arith, n, s)) }
    where
      few : (l : List T) → length l ≤ 1 → IsStrictlySortedBy cmp l
      few [] h = search rules
      few (x ∷ []) h = search rules
      few (x ∷ y ∷ l) h = absurd (omega arith)

  pub told_given : (vs : List (Bor T)) (part : Part) → IsGiven vs part → told vs part ≡ option_map only (given vs part)
  told_given vs part is = few (values_of vs part) (let n = length-values vs part.start part.len is.within in let s = is.single in omega (arith, n, s))
    where
      few : (l : List T) → length l ≤ 1 → as_candidates l ≡ option_map only (least l)
      few [] h = refl
      few (x ∷ []) h = refl
      few (x ∷ y ∷ l) h = absurd (omega arith)

-- ---- answers below a key

pub answer_split : {T : Type 0} (v : Option T) (g : Values T) (s : KeyBits) (x : Bool) (k : KeyBits) → answer_under v g (s ++ x ∷ k) ≡ answer_under (answer_under v g s) (λ q. g (s ++ x ∷ q)) k
answer_split v g [] x k = refl
answer_split v g (b ∷ s) x k = answer_split (option_or (g []) v) (after b g) s x k

-- ---- the parts of a node

module _ {T : Type 0} (cmp : T → T → Ordering) (old new : List (Bor T)) (lists : List Part) (k : ℕ) (part : Part) (many : length lists ≡ 31) (most : k < 31) (kept : KeepsParts old new) where
  pub at_place : (b : ℕ) → b ≡ k → part_at (set lists k part) b ≡ part
  at_place b e = ap (part_at (set lists k part)) e ∙ get_or-set_same lists k part (record { start = 0; len = 0 }) (omega (arith, many, most))

  pub at_other : (b : ℕ) → b ≢ k → part_at (set lists k part) b ≡ part_at lists b
  at_other b n = get_or-set_other lists k b part (record { start = 0; len = 0 }) n

  pub parts_set : AreParts cmp old lists → IsPart cmp new part → AreParts cmp new (set lists k part)
  parts_set parts is b h = elim (nat_same b k) [
    | inl e ↦ subst (IsPart cmp new) (sym (at_place b e)) is
    | inr n ↦ subst (IsPart cmp new) (sym (at_other b n)) (is_part_kept cmp old new (part_at lists b) kept (parts b h))
  ]

  pub told_other : AreParts cmp old lists → (b : ℕ) → b < 31 → b ≢ k → list_at new (set lists k part) b ≡ list_at old lists b
  told_other parts b h n = ap (told new) (at_other b n) ∙ told_kept old new (part_at lists b) kept ((parts b h).within)

  pub told_place : (b : ℕ) → b ≡ k → list_at new (set lists k part) b ≡ told new part
  told_place b e = ap (told new) (at_place b e)

-- ---- results

pub ok_any : {P : Type 0} {A E : Type 0} (r : Result A E) → P → OnOk r P
ok_any (Ok a) h = h
ok_any (Err e) h = tt

pub position_long : {X : Type 0} (view : TableView X) → HoldsPositions view → (at : ℕ) → IsSome (map.get view.places at) → length (position_at view at) % 5 ≡ 0
position_long view holds at named = of (map.get view.places at) refl
  where
    of : (q : Option KeyBits) → map.get view.places at ≡ q → length (position_at view at) % 5 ≡ 0
    of None e = absurd (let f = sym (ap is_some e) ∙ named in cc)
    of (Some q) e = ap (λ s. length s % 5) (node_named view at q e) ∙ (holds.lengths q (holds.named at q e)).0
