-- A family that passes each test.
use Rattle.std.proofs.Common.{◌≡◌, ℕ, suc, ◌+◌, ◌-◌, ◌*◌, ◌<◌, ◌≤◌, ◌≢◌, true, false, not, List, [], ◌∷◌, length, take, drop, sym, ap, ◌∙◌, arith, Ok}
use Rattle.std.specs.Prelude.{◌||◌}
use Rattle.std.proofs.lemmas.Bool.{le-ltb}
use Rattle.std.proofs.lemmas.List.{drop-drop}
use Rattle.prefix_model.specs.declared.Cause.TheVariants.{Truncated, InvalidValue, MissingRootNode, DataListTooShort, DataListTooLong}
use Rattle.prefix_model.specs.Spelling.{Codec}
use Rattle.prefix_model.specs.FirstCause.{◌>>=◌, first_word, read_records, check_records, check_values, check_body, check}
use Rattle.prefix_model.proofs.Archive.Scan.{passes}
use Rattle.prefix_layout.specs.Spans.{some_refused}
use Rattle.prefix_layout.proofs.Steps.{ne_false}

module _ {V : Type 0} (codec : Codec V) where
  pub refused_next : (n i : ℕ) (rest : List ℕ) → i < n → codec.accepted (take codec.size rest) ≡ true → some_refused codec (n - i) rest ≡ some_refused codec (n - (i + 1)) (drop codec.size rest)
  refused_next n i rest h a =
      let one : n - i ≡ suc (n - (i + 1)) = omega arith in
      ap (λ k. some_refused codec k rest) one ∙ ap (λ b. not b || some_refused codec (n - (i + 1)) (drop codec.size rest)) a

  -- the bytes of a family that passes
  pub record Passing (w nodes entries total : ℕ) (bytes body tail : List ℕ) : Type 0 where
    pub counts : 8 ≤ length bytes
    pub nodes_is : nodes ≡ first_word bytes
    pub entries_is : entries ≡ first_word (drop 4 bytes)
    pub body_is : body ≡ drop 8 bytes
    pub tail_is : tail ≡ drop (16 * nodes) body
    pub root : nodes ≢ 0
    pub room : 16 * nodes ≤ length body
    pub records : Ok total ≡ check_records w false (0 ∷ []) 0 1 (read_records nodes body)
    pub enough : total ≤ entries
    pub not_more : entries ≤ total
    pub values : entries * codec.size ≤ length tail
    pub accepted : some_refused codec entries tail ≡ false

  pub all_passed : (w nodes entries total size : ℕ) (bytes body tail : List ℕ) → size ≡ codec.size → Passing w nodes entries total bytes body tail → check codec w bytes ≡ Ok (drop (8 + 16 * nodes + entries * size) bytes)
  all_passed w nodes entries total size bytes body tail s p =
      passes _ Truncated _ (le-ltb (length bytes) 8 p.counts)
      ∙ (λ i. check_body codec w (sym p.nodes_is i) (sym p.entries_is i) (sym p.body_is i))
      ∙ passes _ MissingRootNode _ (ne_false nodes 0 p.root)
      ∙ passes _ Truncated _ (le-ltb (length body) (16 * nodes) p.room)
      ∙ (λ i. sym p.records i >>= λ total. check_values codec total entries (sym p.tail_is i))
      ∙ passes _ DataListTooShort _ (le-ltb entries total p.enough)
      ∙ passes _ DataListTooLong _ (le-ltb total entries p.not_more)
      ∙ passes _ Truncated _ (le-ltb (length tail) (entries * codec.size) p.values)
      ∙ passes _ InvalidValue _ p.accepted
      ∙ ap Ok ((λ i. drop (entries * codec.size) ((p.tail_is ∙ ap (drop (16 * nodes)) p.body_is) i)) ∙ ap (drop (entries * codec.size)) (drop-drop (16 * nodes) 8 bytes) ∙ drop-drop (entries * codec.size) (8 + 16 * nodes) bytes ∙ ap (λ x. drop (8 + 16 * nodes + entries * x) bytes) (sym s))

pub fits_in : (l n v t : ℕ) → 8 ≤ l → n ≤ l - 8 → t ≡ l - 8 - n → v ≤ t → 8 + n + v ≤ l
fits_in l n v t a b c d = omega arith
