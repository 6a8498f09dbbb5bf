-- The nodes of places.
use Rattle.std.specs.Prelude.{◌≡◌, ◌+◌, ◌*◌, ◌/◌, ◌%◌, ◌<◌, ◌≤◌, true, [], ◌++◌, length, take, drop}
use Rattle.std.proofs.Common.{sym, ap, ◌∙◌, subst, arith, length-append, length-take, length-drop}
use Rattle.prefix_model.specs.Keys.{KeyBits}
use Rattle.prefix_model.specs.Walks.{begins_with, node_of}
use Rattle.prefix_model.proofs.Fronts.{take_drop, append_none, front_append, same_front}

-- a place is its node and fewer than five bits
pub record Parts (p : KeyBits) : Type 0 where
  pub inner : KeyBits
  pub whole : p ≡ node_of p ++ inner
  pub short : length inner < 5
  pub at_five : length (node_of p) % 5 ≡ 0

pub parts : (p : KeyBits) → Parts p
unfolding node_of
parts p =
    let n = 5 * (length p / 5) in
    let l = length-take n p in
    let d = length-drop n p in
    record { inner = drop n p; whole = take_drop n p; short = omega (arith, d); at_five = omega (arith, l) }

-- the node of a key that is a node's and fewer than five bits
pub node_is : (n s : KeyBits) → length n % 5 ≡ 0 → length s < 5 → node_of (n ++ s) ≡ n
node_is n s e l =
    let q = parts (n ++ s) in
    sym ((same_front n (node_of (n ++ s)) s q.inner e q.at_five l q.short q.whole).0)

pub node_itself : (n : KeyBits) → length n % 5 ≡ 0 → node_of n ≡ n
node_itself n e = ap node_of (sym (append_none n)) ∙ node_is n [] e (omega arith)

-- the node of a place is less than five bits above it
pub node_above : (p : KeyBits) → length (node_of p) ≤ length p
node_above p = let q = parts p in let l = ap length q.whole ∙ length-append (node_of p) q.inner in omega (arith, l)

pub node_near : (p : KeyBits) → length p < length (node_of p) + 5
node_near p = let q = parts p in let l = ap length q.whole ∙ length-append (node_of p) q.inner in let s = q.short in omega (arith, l, s)

pub node_front : (p : KeyBits) → begins_with (node_of p) p ≡ true
node_front p = let q = parts p in subst (λ k. begins_with (node_of p) k ≡ true) (sym q.whole) (front_append (node_of p) q.inner)
