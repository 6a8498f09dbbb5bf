-- Searches for the first entry in key order.
--     comes_before k l      whether k stands before l in key order
--     comes_from q inclusive k      whether k does not stand before q, and is not q itself unless that is to be included
--     IsFirst f test r      r is the first entry of f whose key passes the test, and none where f has none
--     in_walk w q inclusive k      whether k begins with w and does not stand before q, and is not q unless inclusive
use Rattle.std.specs.Prelude.{◌≡◌, Bool, true, false, not, ◌&&◌, Option, Some, None, MatchOption}
use Rattle.std.specs.Ordering.{is_lt}
use Rattle.prefix_model.specs.Keys.{KeyBits, key_cmp}
use Rattle.prefix_model.specs.Tables.{Values}
use Rattle.prefix_model.specs.Walks.{begins_with}

abbrev pub comes_before : KeyBits → KeyBits → Bool
comes_before k l = is_lt (key_cmp k l)

abbrev pub comes_from : KeyBits → Bool → KeyBits → Bool
comes_from q true k = not (comes_before k q)
comes_from q false k = comes_before q k

module _ {V : Type 0} (f : Values V) (test : KeyBits → Bool) where
  -- no key that passes the test is stored
  pub record HasNone : Type 0 where
    pub none : (k : KeyBits) → test k ≡ true → f k ≡ None

  -- the entry is the first
  pub record IsFirstEntry (e : KeyBits × V) : Type 0 where
    pub passes : test e.0 ≡ true
    pub stored : f e.0 ≡ Some e.1
    pub before : (k : KeyBits) → test k ≡ true → comes_before k e.0 ≡ true → f k ≡ None

  abbrev pub IsFirst : Option (KeyBits × V) → Type 0
  IsFirst r = MatchOption r HasNone IsFirstEntry

abbrev pub in_walk : KeyBits → KeyBits → Bool → KeyBits → Bool
in_walk w q inclusive k = begins_with w k && comes_from q inclusive k
