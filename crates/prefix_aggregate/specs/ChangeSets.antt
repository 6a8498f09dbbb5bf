-- Change sets: the candidates of a table at the places where they change.
-- A place is a key of a node: the node's position, followed by the bits of a data bit.
--     shortened s      s without its last bit
--     candidates_from cmp w f s      the candidates of the key s, where f has the answers of a table for addresses of w bits
--     is_change cmp w f p s      whether the list at the place s of the node at p is kept: that of the node's own key always, and any other where it differs from the list of the key one bit shorter
--     mask_of cmp w f p, lists_of cmp w f p      a bit for each place, set where its list is kept;  the lists that are kept, by ascending bit
--     in_key_order ks, node_positions w kept      keys in key order;  the kept positions of at most w bits in key order
--     ChangeLists V, change_lists cmp w f ps      masks and lists;  those of the nodes at the positions ps
--     filled_with d m      m with the value of d at the empty key, where none is stored there
use Rattle.std.specs.Prelude.{ℕ, ◌-◌, ◌&&◌, not, nat_le, Bool, true, List, [], ◌∷◌, ◌++◌, map, length, Option, Some, None}
use Rattle.std.specs.List.{filter, flat_map}
use Rattle.std.specs.Ordering.{match_ordering}
use Rattle.std.specs.declared.cmp.Ordering.{Ordering}
use Rattle.std.specs.FinMap.{keys}
use Rattle.std.specs.Coded.{Coded, code_by, coded×, coded_ℕ, coded_list, coded_option}
use Rattle.std.proofs.Common.{refl}
use Rattle.prefix_model.specs.Keys.{KeyBits, key_cmp}
use Rattle.prefix_model.specs.Tables.{KeyMap, Values}
use Rattle.prefix_model.specs.Positions.{PositionSet, bitmap, data_places}
use Rattle.prefix_model.specs.Candidates.{Candidates, candidates}
use Rattle.prefix_model.specs.Aggregates.{filled}
use Rattle.prefix_aggregate.specs.Same.{same_candidates}

abbrev pub shortened : KeyBits → KeyBits
shortened [] = []
shortened (b ∷ []) = []
shortened (b ∷ c ∷ s) = b ∷ shortened (c ∷ s)

pub record ChangeLists (V : Type 0) : Type 0 where
  pub masks : List ℕ
  pub lists : List (Candidates V)

-- change sets are stored as their two parts
abbrev pub coded_lists : {V : Type 0} → Coded V → Coded (ChangeLists V)
coded_lists {V} code =
    code_by (List ℕ × List (Candidates V)) (coded× (coded_list coded_ℕ) (coded_list (coded_option (coded_list code))))
    (λ c. (c.masks, c.lists)) (λ p. record { masks = p.0; lists = p.1 }) (λ _. refl)

module _ {V : Type 0} (cmp : V → V → Ordering) (w : ℕ) (f : Values V) where
  abbrev pub candidates_from : KeyBits → Candidates V
  candidates_from s = candidates cmp (w - length s) (λ k. f (s ++ k))

  abbrev pub is_change : KeyBits → KeyBits → Bool
  is_change p [] = true
  is_change p (b ∷ s) = nat_le (length (p ++ b ∷ s)) w && not (same_candidates cmp (candidates_from (p ++ b ∷ s)) (candidates_from (p ++ shortened (b ∷ s))))

  abbrev pub mask_of : KeyBits → ℕ
  mask_of p = bitmap (map (is_change p) data_places)

  abbrev pub lists_of : KeyBits → List (Candidates V)
  lists_of p = map (λ s. candidates_from (p ++ s)) (filter (is_change p) data_places)

  abbrev pub change_lists : List KeyBits → ChangeLists V
  change_lists ps = record { masks = map mask_of ps; lists = flat_map lists_of ps }

-- k at its place in a list that is in key order, where it is not there yet
abbrev pub in_place : KeyBits → List KeyBits → List KeyBits
in_place k [] = k ∷ []
in_place k (l ∷ ls) = match_ordering (key_cmp k l) (k ∷ l ∷ ls) (l ∷ ls) (l ∷ in_place k ls)

abbrev pub in_key_order : List KeyBits → List KeyBits
in_key_order [] = []
in_key_order (k ∷ ks) = in_place k (in_key_order ks)

abbrev pub node_positions : ℕ → PositionSet → List KeyBits
node_positions w kept = filter (λ p. nat_le (length p) w) (in_key_order (keys kept))

abbrev pub filled_with : {V : Type 0} → Option V → KeyMap V → KeyMap V
filled_with None m = m
filled_with (Some d) m = filled m d
