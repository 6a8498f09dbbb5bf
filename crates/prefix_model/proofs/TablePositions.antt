-- The positions of a table, by the numbers of its nodes.
use Rattle.std.specs.Prelude.{◌==◌, is_some}
use Rattle.std.specs.Option.{unwrap_or}
use Rattle.std.specs.FinMap as map
use Rattle.std.proofs.Common.{◌≡◌, ℕ, ◌%◌, false, [], ◌++◌, length, Option, Some, None, refl, sym, ap, ◌∙◌, arith, append-nil, length-append}
use Rattle.prefix_model.specs.Keys.{KeyBits, low_bits, prefixes}
use Rattle.prefix_model.specs.Positions.{has_node_length}
use Rattle.prefix_model.specs.TableViews.{TableView, position_at, HoldsPositions, stored_from}
use Rattle.prefix_model.proofs.KeyNumbers.{length-low_bits}
use Rattle.prefix_model.proofs.KeyLemmas.{prefixes_in, filter_in}

pub slot_length : (p : KeyBits) (c : ℕ) → length p % 5 ≡ 0 → length (p ++ low_bits 5 c) % 5 ≡ 0
slot_length p c node =
    let n = length-append p (low_bits 5 c) in
    let five = length-low_bits 5 c in
    omega (arith, n, five)

pub low_bits_none : low_bits 0 0 ≡ []
unfolding low_bits
low_bits_none = refl

module _ {T : Type 0} (view : TableView T) where
  pub node_named : (at : ℕ) (p : KeyBits) → map.get view.places at ≡ Some p → position_at view at ≡ p
  node_named at p e = ap (λ o. unwrap_or o []) e

  pub root_key : (at : ℕ) (s : KeyBits) → map.get view.places at ≡ Some s → position_at view at ++ low_bits 0 0 ≡ s
  root_key at s e = (λ i. node_named at s e i ++ low_bits_none i) ∙ append-nil s

  -- nothing is stored from a key of a node's length that is no kept position
  pub none_from : HoldsPositions view → (p : KeyBits) → length p % 5 ≡ 0 → map.contains_key view.kept p ≡ false → (q : KeyBits) → stored_from view p q ≡ None
  none_from holds p node gone q = of (map.get view.entries (p ++ q)) refl
    where
      of : (o : Option T) → map.get view.entries (p ++ q) ≡ o → o ≡ None
      of None e = refl
      of (Some x) e =
          let kept = holds.stored (p ++ q) p (ap is_some e) (filter_in has_node_length (prefixes (p ++ q)) p (ap (λ n. n == 0) node) (prefixes_in p q)) in
          absurd (let f = sym gone ∙ kept in cc)
