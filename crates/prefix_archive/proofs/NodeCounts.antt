-- Counts of a node of an archive: those of a table in which this node is named.
use Rattle.std.specs.Prelude.{◌≡◌, ℕ, ◌+◌, ◌-◌, ◌*◌, ◌/◌, ◌%◌, ◌^◌, ◌<◌, ◌≤◌, Bool, true, false, cond, [], ◌∷◌, ◌++◌, length, None, Some, is_some, IsSome, nat_lt, bit_and, bit_or, bit_xor}
use Rattle.std.proofs.Common.{refl, sym, ap, ◌∙◌, subst, arith}
use Rattle.std.specs.FinMap as map
use Rattle.std.specs.Int.{bit_at}
use Rattle.std.specs.Option.{unwrap_or}
use Rattle.std.specs.Cmp.{nat_cmp_total}
use Rattle.std.specs.Ordering.{eq_by_cmp, nat_cmp}
use Rattle.std.proofs.Math.Nat.{mod-eq_of_lt}
use borrow.Author.Tests.{eqb-true}
use lib.Count.{ones}
use Rattle.prefix_model.specs.Coverage.{answered}
use Rattle.prefix_model.specs.InPlace.{is_position}
use Rattle.prefix_model.specs.Keys.{KeyBits, low_bits, prefixes, stands_in}
use Rattle.prefix_model.specs.Masks.{set_bits}
use Rattle.prefix_model.specs.Positions.{data_bits, child_bits, has_node_length, position_set, positions_of_key}
use Rattle.prefix_model.specs.Tables.{KeyMap, HasWidth}
use Rattle.prefix_model.specs.Walks.{KeepsPositions}
use Rattle.prefix_model.proofs.KeyLemmas.{filter_out, prefixes_out}
use Rattle.prefix_model.specs.TableViews.{TableView, HoldsPositions, position_at}
use Rattle.prefix_model.specs.Bits.{in_level, any_set, ancestors}
use Rattle.prefix_model.specs.Counts.{total}
use Rattle.prefix_model.proofs.Counting.NodeCounts.{no_slot_count, node_slots, node_places}
use Rattle.prefix_archive.specs.Coverage.{answers_from}
use Rattle.prefix_archive.specs.ViewLaws.{keeps_position, keeps_positions}
use Rattle.prefix_archive.proofs.Views.{kept_children}

first_named : (p : KeyBits) → map.get (map.insert (map.empty {R = nat_cmp}) 0 p) 0 ≡ Some p
first_named p = map.get-insert nat_cmp_total (map.empty {R = nat_cmp}) 0 p 0

-- one place alone is named
named_alone : (p : KeyBits) (at : ℕ) (q : KeyBits) → map.get (map.insert (map.empty {R = nat_cmp}) 0 p) at ≡ Some q → q ≡ p
named_alone p at q e = of (eq_by_cmp nat_cmp at 0) (sym (map.get-insert nat_cmp_total (map.empty {R = nat_cmp}) 0 p at ∙ ap (cond (eq_by_cmp nat_cmp at 0) (Some p)) (map.get-empty nat_cmp at)) ∙ e)
  where
    of : (b : Bool) → cond b (Some p) None ≡ Some q → q ≡ p
    of true h = cc
    of false h = cc

module _ {V : Type 0} (m : KeyMap V) (w : ℕ) (wide : HasWidth w m) (most : w ≤ 128) (p : KeyBits) (there : is_position m p ≡ true) where
  abbrev table : TableView V
  table = record { entries = m; kept = position_set m; places = map.insert (map.empty {R = nat_cmp}) 0 p }

  keeps : KeepsPositions w m (position_set m)
  keeps = keeps_positions m w wide

  short : (q : KeyBits) → map.contains_key (position_set m) q ≡ true → (length q % 5 ≡ 0) × (length q ≤ 125)
  short q h = let five = keeps.lengths q h in let l = keeps.kept_width q h in (five, omega (arith, five, l, most))

  of_stored : (k q : KeyBits) → IsSome (map.get m k) → stands_in (positions_of_key k) q ≡ true → map.contains_key (position_set m) q ≡ true
  of_stored k q some stands =
      let parts = filter_out has_node_length (prefixes k) q stands in
      let rest = prefixes_out k q parts.1 in
      keeps.stored q rest.0 (eqb-true (length q % 5) 0 parts.0) (subst (λ x. IsSome (map.get m x)) rest.1 some)

  holds : HoldsPositions table
  holds = record {
    root = keeps.root;
    named = λ at q e. ap (map.contains_key (position_set m)) (named_alone p at q e) ∙ keeps_position m p ∙ there;
    lengths = short;
    above = keeps.above;
    stored = of_stored;
  }

  at_first : position_at table 0 ≡ p
  at_first = ap (λ o. unwrap_or o []) (first_named p)

  named_first : IsSome (map.get table.places 0)
  named_first = ap is_some (first_named p)

  -- no address below a slot without a node has an answer
  pub no_slot : (c n : ℕ) → is_position m (p ++ low_bits 5 c) ≡ false → answered n (answers_from m (p ++ low_bits 5 c)) ≡ 0
  no_slot c n gone =
      subst (λ q. answered n (answers_from m (q ++ low_bits 5 c)) ≡ 0) at_first
      (no_slot_count table holds 0 named_first c n (ap (λ q. map.contains_key (position_set m) (q ++ low_bits 5 c)) at_first ∙ keeps_position m (p ++ low_bits 5 c) ∙ gone))

  -- a node with slots: all addresses of those with a value above, and what the other children have
  pub slots_of : (left d below kids : ℕ) → 5 ≤ left → d ≡ data_bits (map.get m) p
      → ((c : ℕ) → bit_at below c ≡ cond (nat_lt c 32) (any_set d ((15 + c / 2) ∷ ancestors (15 + c / 2))) 0)
      → kids ≡ child_bits (is_position m) p
      → answered left (answers_from m p) ≡ ones below * 2 ^ (left - 5) + total (λ c. answered (left - 5) (answers_from m (p ++ low_bits 5 c))) (set_bits (bit_xor kids (bit_and kids below)))
  slots_of left d below kids deep stored slots children =
      subst (λ q. answered left (answers_from m q) ≡ ones below * 2 ^ (left - 5) + total (λ c. answered (left - 5) (answers_from m (q ++ low_bits 5 c))) (set_bits (bit_xor kids (bit_and kids below)))) at_first
      (node_slots table holds 0 named_first left d below kids deep (stored ∙ ap (data_bits (map.get m)) (sym at_first)) slots
      (children ∙ kept_children m p p refl ∙ ap (child_bits (map.contains_key (position_set m))) (sym at_first)))

  -- a node whose addresses are places of its own
  pub places_of : (left d inside level : ℕ) → left < 5 → d ≡ data_bits (map.get m) p → ((b : ℕ) → bit_at inside b ≡ cond (nat_lt b 31) (any_set d (ancestors b)) 0)
      → ((b : ℕ) → bit_at level b ≡ cond (in_level left b) 1 0) → ones (bit_and (bit_or d inside) level) ≡ answered left (answers_from m p)
  places_of = node_places table p

-- ---- sums

pub rest_small : (whole ones size rest : ℕ) → whole ≡ ones * size + rest → whole < 2 ^ 128 → rest < 2 ^ 128
rest_small whole ones size rest e few = omega (arith, e, few)

pub shifted_sum : (whole ones count size rest counted : ℕ) → whole ≡ ones * size + rest → whole < 2 ^ 128 → count ≡ ones → counted ≡ rest → count * size % 2 ^ 128 + counted ≡ whole
shifted_sum whole ones count size rest counted e few same same_rest =
    let product : count * size ≡ ones * size = ap (λ n. n * size) same in
    let fits = mod-eq_of_lt (let l : count * size < 2 ^ 128 = omega (arith, product, e, few) in l) in
    omega (arith, fits, product, e, same_rest)
