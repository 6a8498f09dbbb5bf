-- The nodes on the way to a key: as the way goes up and down, and as the table changes.
use Rattle.std.specs.Prelude.{◌≡◌, ℕ, zero, suc, ◌+◌, ◌*◌, ◌/◌, ◌%◌, ◌≤◌, List, length, take, drop, replicate, Some, get_or, set}
use Rattle.std.proofs.Common.{refl, sym, ap, ◌∙◌, arith, length-take}
use Rattle.std.proofs.lemmas.List.{get_or-set_same, get_or-set_other, length-set}
use Rattle.prefix_model.specs.Keys.{KeyBits}
use Rattle.prefix_table.specs.Tries.{number_at, IsTrie}
use Rattle.prefix_table.specs.Writes.{KeepsWay}
use Rattle.prefix_table.specs.Ways.{IsWay}
use Rattle.prefix_table.specs.declared.trie.Trie.{Trie}
use Rattle.prefix_model.proofs.KeyPieces.{take_parts}
use Rattle.prefix_model.proofs.KeyLists.{take_take}
use Rattle.prefix_table.proofs.TrieWays.{number_zero, number_tells, order_of}
use Rattle.prefix_table.proofs.TrieWays.InOrder.{less, alike, more}

module _ {T : Type 0} where
  -- the root alone
  pub way_new : (t : Trie T) (bits : KeyBits) → IsWay t bits (replicate 26 0) 0
  way_new t bits = record { at_five = refl; within = omega arith; few = omega arith; size = refl; named = named }
    where
      named : (i : ℕ) → 5 * i ≤ 0 → number_at t (take (5 * i) bits) ≡ Some (get_or (replicate 26 0) i 0)
      named zero l = number_zero t
      named (suc i) l = absurd (omega (arith, l))

  -- the last node
  pub way_last : (t : Trie T) (bits : KeyBits) (numbers : List ℕ) (depth at : ℕ) → IsWay t bits numbers depth → at ≡ get_or numbers (depth / 5) 0 → number_at t (take depth bits) ≡ Some at
  way_last t bits numbers depth at way is =
      let five = way.at_five in
      let whole : 5 * (depth / 5) ≡ depth = omega (arith, five) in
      ap (λ d. number_at t (take d bits)) (sym whole) ∙ way.named (depth / 5) (omega (arith, whole)) ∙ ap Some (sym is)

  -- a way is one to each key that begins with its last position
  pub way_shared : (t : Trie T) (last bits : KeyBits) (numbers : List ℕ) (depth shared : ℕ) → IsWay t last numbers depth → shared % 5 ≡ 0 → shared ≤ depth → shared ≤ length bits → take shared last ≡ take shared bits → IsWay t bits numbers shared
  way_shared t last bits numbers depth shared way five up within same = record {
    at_five = five;
    within = within;
    few = (let few = way.few in omega (arith, few, up));
    size = way.size;
    named = λ i l. ap (number_at t) (sym (take_take bits (5 * i) shared l) ∙ ap (take (5 * i)) (sym same) ∙ take_take last (5 * i) shared l) ∙ way.named i (omega (arith, l, up));
  }

  -- one more node
  pub way_further : (t : Trie T) → IsTrie t → (bits : KeyBits) (numbers : List ℕ) (depth child i : ℕ) → IsWay t bits numbers depth → depth + 5 ≤ length bits → number_at t (take (depth + 5) bits) ≡ Some child → i ≡ (depth + 5) / 5
      → IsWay t bits (set numbers i child) (depth + 5)
  way_further t trie bits numbers depth child i way within named is = record {
    at_five = omega (arith, five);
    within = within;
    few = deep;
    size = length-set numbers i child ∙ way.size;
    named = later;
  }
    where
      five : depth % 5 ≡ 0
      five = way.at_five

      deep : depth + 5 ≤ 125
      deep =
          let found = number_tells t trie (take (depth + 5) bits) child named in
          let node = (trie.each (take (depth + 5) bits) found.0 found.1.here).depth_within in
          let size = length-take (depth + 5) bits in
          omega (arith, node, size, within)

      later : (j : ℕ) → 5 * j ≤ depth + 5 → number_at t (take (5 * j) bits) ≡ Some (get_or (set numbers i child) j 0)
      later j l = elim (order_of j i) [
        | less z ↦ way.named j (omega (arith, z, is, five)) ∙ ap Some (sym (get_or-set_other numbers i j child 0 (λ e. omega (arith, e, z))))
        | alike z ↦
            let whole : 5 * j ≡ depth + 5 = omega (arith, z, is, five) in
            let size = way.size in
            ap (λ d. number_at t (take d bits)) whole ∙ named ∙ ap Some (sym (ap (λ k. get_or (set numbers i child) k 0) z ∙ get_or-set_same numbers i child 0 (omega (arith, size, is, deep))))
        | more z ↦ absurd (omega (arith, z, is, five, l))
      ]

  -- the way stays where the table changes at a key below it
  pub way_stays : (t t' : Trie T) (bits : KeyBits) (len : ℕ) (numbers : List ℕ) (depth : ℕ) → IsWay t bits numbers depth → depth ≤ len → KeepsWay t t' (take len bits) → IsWay t' bits numbers depth
  way_stays t t' bits len numbers depth way within keeps = record {
    at_five = way.at_five;
    within = way.within;
    few = way.few;
    size = way.size;
    named = λ i l. keeps (take (5 * i) bits) (drop (5 * i) (take len bits)) (get_or numbers i 0) (sym (take_parts bits (5 * i) len (omega (arith, l, within)))) (way.named i l);
  }

  pub way_last_written : (t : Trie T) (bits : KeyBits) (numbers : List ℕ) (depth child i : ℕ) → IsWay t bits numbers depth → IsWay t bits (set numbers i child) (depth + 5) → i ≡ (depth + 5) / 5 → child ≡ get_or (set numbers i child) ((depth + 5) / 5) 0
  way_last_written t bits numbers depth child i way further is =
      let size = way.size in
      let few = further.few in
      sym (ap (λ k. get_or (set numbers i child) k 0) (sym is) ∙ get_or-set_same numbers i child 0 (omega (arith, size, is, few)))
