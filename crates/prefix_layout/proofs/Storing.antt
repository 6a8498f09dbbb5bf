-- The values of a node, read one after the other.
use Rattle.std.proofs.Common.{◌≡◌, ℕ, suc, ◌+◌, ◌-◌, ◌*◌, ◌<◌, ◌≤◌, true, false, not, List, [], ◌∷◌, ◌++◌, length, take, drop, sym, ap, ◌∙◌, subst, arith, append_assoc}
use Rattle.std.proofs.lemmas.Bool.{not-false}
use Rattle.std.proofs.lemmas.List.{length-drop, drop-drop, append-nil}
use Rattle.prefix_model.specs.Spelling.{Codec}
use Rattle.prefix_model.proofs.Archive.Tries.{or_false}
use Rattle.prefix_layout.specs.Spans.{some_refused}
use Rattle.prefix_layout.specs.Reads.{values_in}

module _ {V : Type 0} (codec : Codec V) (all : List V) (behind : List ℕ) where
  -- n values are left at the front of the bytes; with them all are there
  pub record Taking (n : ℕ) (rest : List ℕ) (vs : List V) : Type 0 where
    pub room : n * codec.size ≤ length rest
    pub accepted : some_refused codec n rest ≡ false
    pub same : vs ++ values_in codec n rest ≡ all
    pub ends : drop (n * codec.size) rest ≡ behind

  -- before one more value
  pub record OneMore (n : ℕ) (rest : List ℕ) (vs : List V) : Type 0 where
    pub room : codec.size ≤ length rest
    pub accepted : codec.accepted (take codec.size rest) ≡ true
    pub next : Taking n (drop codec.size rest) (vs ++ codec.read (take codec.size rest) ∷ [])

  one_more : (n : ℕ) (rest : List ℕ) (vs : List V) → Taking (suc n) rest vs → OneMore n rest vs
  one_more n rest vs h =
      let fine = or_false (not (codec.accepted (take codec.size rest))) _ h.accepted in
      let more : suc n * codec.size ≡ codec.size + n * codec.size = omega arith in
      let room = h.room in
      record {
        room = omega (arith, more, room);
        accepted = not-false _ fine.0;
        next = record {
          room = omega (arith, more, room, length-drop codec.size rest);
          accepted = fine.1;
          same = append_assoc vs (codec.read (take codec.size rest) ∷ []) (values_in codec n (drop codec.size rest)) ∙ h.same;
          ends = drop-drop (n * codec.size) codec.size rest ∙ ap (λ k. drop k rest) (sym more) ∙ h.ends;
        };
      }

module _ {V : Type 0} {codec : Codec V} {all : List V} {behind : List ℕ} where
  -- the value that is next, where i of n are read
  pub next_value : {n i : ℕ} {rest : List ℕ} {vs : List V} → i < n → Taking codec all behind (n - i) rest vs → OneMore codec all behind (n - (i + 1)) rest vs
  next_value {n} {i} {rest} {vs} l h =
      let more : n - i ≡ suc (n - (i + 1)) = omega arith in one_more codec all behind (n - (i + 1)) rest vs (subst (λ k. Taking codec all behind k rest vs) more h)

  pub value_read : {n : ℕ} {rest : List ℕ} {vs : List V} → OneMore codec all behind n rest vs → (next_rest : List ℕ) (next : List V) (value : V) → next_rest ≡ drop codec.size rest → next ≡ vs ++ value ∷ [] → value ≡ codec.read (take codec.size rest)
      → Taking codec all behind n next_rest next
  value_read {n} {rest} {vs} h next_rest next value e f v =
      subst (λ r. Taking codec all behind n r next) (sym e) (subst (Taking codec all behind n (drop codec.size rest)) (sym (f ∙ ap (λ x. vs ++ x ∷ []) v)) h.next)

  pub all_read : {n i : ℕ} {rest : List ℕ} {vs : List V} → n ≤ i → Taking codec all behind (n - i) rest vs → (vs ≡ all) × (rest ≡ behind)
  all_read {n} {i} {rest} {vs} l h =
      let none = subst (λ k. Taking codec all behind k rest vs) (let z : n - i ≡ 0 = omega arith in z) h in
      let z : 0 ≡ 0 * codec.size = omega arith in
      (sym (append-nil vs) ∙ none.same, ap (λ k. drop k rest) z ∙ none.ends)
