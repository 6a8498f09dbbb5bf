-- The bits of places, as the code reads them.
use Rattle.std.specs.Prelude.{◌≡◌, ℕ, ◌+◌, ◌*◌, ◌/◌, ◌≤◌, Bool, true, [], ◌∷◌, ◌++◌, length, take, drop}
use Rattle.std.proofs.Common.{sym, ap, ◌∙◌, arith, length-append}
use Rattle.prefix_model.specs.Keys.{KeyBits}
use Rattle.prefix_model.specs.Walks.{begins_with, node_of}
use Rattle.prefix_model.proofs.Fronts.{take_front, drop_front, front_take, front_of_all, front_from, front_both, front_cut}
use Rattle.prefix_model.proofs.Nodes.{parts}
pub use Rattle.prefix_model.proofs.Fronts.{front_length}
pub use Rattle.prefix_model.proofs.Nodes.{node_itself, node_above, node_near}

-- what follows the node in a place, where only the bits and the length are known
pub inner_of_place : (p rest bits : KeyBits) (len : ℕ) → bits ≡ p ++ rest → len ≡ length p → drop (len / 5 * 5) (take len bits) ≡ (parts p).inner
inner_of_place p rest bits len b l =
    let q = parts p in
    let m = ap length q.whole ∙ length-append (node_of p) q.inner in
    let s = q.short in
    let f = q.at_five in
    let n : len / 5 * 5 ≡ length (node_of p) = omega (arith, l, m, s, f) in
    let t : take len bits ≡ p = (λ i. take (l i) (b i)) ∙ take_front p rest in
    (λ i. drop (n i) (t i)) ∙ ap (drop (length (node_of p))) q.whole ∙ drop_front (node_of p) q.inner

-- the key of a place with one more bit, as the code makes it
pub stepped : (p rest vbits taken : KeyBits) (b : Bool) (len : ℕ) → vbits ≡ p ++ rest → len ≡ length p → taken ≡ take len vbits ++ b ∷ [] → taken ≡ p ++ b ∷ []
stepped p rest vbits taken b len v l t = t ∙ ap (λ k. k ++ b ∷ []) ((λ i. take (l i) (v i)) ∙ take_front p rest)

pub stepped_child : (p rest vbits bits : KeyBits) (b : Bool) (len d n : ℕ) → vbits ≡ p ++ rest → len ≡ length p → take (len + 1) bits ≡ take len vbits ++ b ∷ [] → len + 1 ≡ d + 5 → d ≡ n → take (n + 5) bits ≡ p ++ b ∷ []
stepped_child p rest vbits bits b len d n v l t e f =
    ap (λ m. take m bits) (let h : n + 5 ≡ len + 1 = omega (arith, e, f) in h) ∙ stepped p rest vbits (take (len + 1) bits) b len v l t

-- what comparing the first bits of two integers says of a place and a key
pub extends_from : (p rest vbits bits : KeyBits) (pl len : ℕ) → vbits ≡ p ++ rest → pl ≡ length p → pl ≤ len → take pl vbits ≡ take pl bits → begins_with p (take len bits) ≡ true
extends_from p rest vbits bits pl len v l m e =
    let same : take (length p) bits ≡ p = ap (λ n. take n bits) (sym l) ∙ sym e ∙ ((λ i. take (l i) (v i)) ∙ take_front p rest) in
    front_cut p bits len (omega (arith, l, m)) (front_from p bits same)

pub same_from : (p rest vbits bits : KeyBits) (pl len : ℕ) → vbits ≡ p ++ rest → pl ≡ length p → begins_with p (take len bits) ≡ true → take pl vbits ≡ take pl bits
same_from p rest vbits bits pl len v l f =
    let same : take (length p) bits ≡ p = front_take p bits (front_both p (take len bits) bits f (front_of_all len bits)) in
    ((λ i. take (l i) (v i)) ∙ take_front p rest) ∙ sym same ∙ ap (λ n. take n bits) (sym l)
