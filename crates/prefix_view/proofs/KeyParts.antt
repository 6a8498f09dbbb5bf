-- A key that extends a place: what it adds to the node of the place, and the child towards it.
use Rattle.std.specs.Prelude.{◌≡◌, ℕ, ◌+◌, ◌*◌, ◌/◌, ◌%◌, ◌<◌, ◌≤◌, true, ◌++◌, length, take, drop}
use Rattle.std.proofs.Common.{sym, ap, ◌∙◌, subst, arith, length-append, length-take, length-drop}
use Rattle.prefix_model.specs.Keys.{KeyBits}
use Rattle.prefix_model.specs.Walks.{begins_with}
use Rattle.prefix_model.proofs.Fronts.{follows, front_both, front_length, front_within, drop_front}
use Rattle.prefix_model.proofs.Nodes.{parts, node_front, node_above, node_near}
use Rattle.prefix_model.proofs.Walking.FromNode.{behind_child}
use Rattle.prefix_model.specs.Views.{Seen, node}

pub key_here : {V : Type 0} (v : Seen V) (k : KeyBits) (d : ℕ) → d ≡ length (node v) → begins_with v.place k ≡ true → k ≡ node v ++ drop d k
key_here v k d depth extends =
    let f = follows (node v) k (front_both (node v) v.place k (node_front v.place) extends) in
    f.whole ∙ ap (λ x. node v ++ x) (sym ((λ i. drop (depth i) (f.whole i)) ∙ drop_front (node v) f.rest))

module _ {V : Type 0} (v : Seen V) (bits : KeyBits) (len d : ℕ) (depth : d ≡ length (node v)) (extends : begins_with v.place (take len bits) ≡ true) where
  pub depth_within : d ≤ len
  depth_within =
      let a = node_above v.place in
      let f = front_length v.place (take len bits) extends in
      let t = length-take len bits in
      omega (arith, depth, a, f, t)

  pub depth_of_key : len < d + 5 → len / 5 * 5 ≡ d
  depth_of_key near = let five = (parts v.place).at_five in let l = depth_within in omega (arith, depth, five, near, l)

  pub key_short : len < d + 5 → length (drop d (take len bits)) < 5
  key_short near = let a = length-drop d (take len bits) in let t = length-take len bits in omega (arith, a, t, near)

  module _ (inside : d + 5 ≤ len) (within : len ≤ length bits) where
    front_whole : begins_with v.place (take (d + 5) bits) ≡ true
    front_whole = let n = node_near v.place in front_within v.place bits len (d + 5) (omega (arith, n, depth)) extends

    pub child_whole : take (d + 5) bits ≡ node v ++ drop d (take (d + 5) bits)
    child_whole = key_here v (take (d + 5) bits) d depth front_whole

    pub child_front : begins_with v.place (node v ++ drop d (take (d + 5) bits)) ≡ true
    child_front = subst (λ x. begins_with v.place x ≡ true) child_whole front_whole

    pub child_five : length (drop d (take (d + 5) bits)) ≡ 5
    child_five = let a = length-drop d (take (d + 5) bits) in let t = length-take (d + 5) bits in omega (arith, a, t, inside, within)

    pub child_at_five : length (node v ++ drop d (take (d + 5) bits)) % 5 ≡ 0
    child_at_five =
        let a = length-append (node v) (drop d (take (d + 5) bits)) in
        let five = child_five in
        let at_five = (parts v.place).at_five in
        omega (arith, a, five, at_five)

    pub key_below : take len bits ≡ (node v ++ drop d (take (d + 5) bits)) ++ (behind_child bits d len inside).rest
    key_below = (behind_child bits d len inside).whole ∙ ap (λ x. x ++ (behind_child bits d len inside).rest) child_whole

    pub child_is : take (length (node v) + 5) bits ≡ node v ++ drop d (take (d + 5) bits)
    child_is = ap (λ n. take (n + 5) bits) (sym depth) ∙ child_whole
