-- Bytes that are written one part after the other.
use Rattle.std.proofs.Common.{◌≡◌, ℕ, cond, List, [], ◌++◌, length, take, refl, sym, ap, ◌∙◌, subst, append_assoc, Result, Ok, Err}
use Rattle.std.specs.Prelude.{is_ok}
use Rattle.std.specs.List.{flat_map}
use Rattle.std.specs.FinMap as map
use Rattle.std.proofs.lemmas.List.{append-nil, take_at}
use Rattle.prefix_model.specs.Keys.{key_cmp, stands_in}
use Rattle.prefix_model.specs.Tables.{KeyMap}
use Rattle.prefix_model.specs.Positions.{positions_in, records}
use Rattle.prefix_model.specs.Spelling.{Codec, word, record_bytes, layout, spelling}
use Rattle.prefix_layout.specs.Writing.{StartsWith, Appends, node_values}

pub starts_more : (a b c : List ℕ) → StartsWith a b → StartsWith b c → StartsWith a c
starts_more a b c h k = record { tail = h.tail ++ k.tail; same = k.same ∙ ap (λ xs. xs ++ k.tail) h.same ∙ append_assoc a h.tail k.tail }

pub cut_back : (a b : List ℕ) → StartsWith a b → take (length a) b ≡ a
cut_back a b h = ap (take (length a)) h.same ∙ take_at a h.tail (length a) refl

pub appended : {X E : Type 0} (r : Result X E) (old new bytes : List ℕ) → new ≡ cond (is_ok r) (old ++ bytes) old → Appends old new bytes r
appended (Ok x) old new bytes e = e
appended (Err x) old new bytes e = record { tail = []; same = e ∙ sym (append-nil old) }

pub failed : {X E : Type 0} (r : Result X E) (e : E) (old new bytes : List ℕ) → r ≡ Err e → StartsWith old new → Appends old new bytes r
failed r e old new bytes same s = subst (Appends old new bytes) (sym same) s

pub append_then : {X E : Type 0} (r : Result X E) (old now new a b : List ℕ) → now ≡ old ++ a → Appends now new b r → Appends old new (a ++ b) r
append_then (Ok x) old now new a b e h = h ∙ ap (λ xs. xs ++ b) e ∙ append_assoc old a b
append_then (Err x) old now new a b e h = starts_more old now new (record { tail = a; same = e }) h

-- of whole, what is done stands behind old, and rest is left
pub record Written (old now rest whole : List ℕ) : Type 0 where
  pub done : List ℕ
  pub same : now ≡ old ++ done
  pub all : done ++ rest ≡ whole

pub none_written : (old whole : List ℕ) → Written old old whole whole
none_written old whole = record { done = []; same = sym (append-nil old); all = refl }

pub more_written : (old now next bytes rest left whole : List ℕ) → Written old now left whole → left ≡ bytes ++ rest → next ≡ now ++ bytes → Written old next rest whole
more_written old now next bytes rest left whole w e f = record {
  done = w.done ++ bytes;
  same = f ∙ ap (λ xs. xs ++ bytes) w.same ∙ append_assoc old w.done bytes;
  all = append_assoc w.done bytes rest ∙ ap (λ xs. w.done ++ xs) (sym e) ∙ w.all;
}

-- where a part has no bytes
pub same_written : (old now next rest left whole : List ℕ) → Written old now left whole → left ≡ rest → next ≡ now → Written old next rest whole
same_written old now next rest left whole w e f = record { done = w.done; same = f ∙ w.same; all = ap (λ xs. w.done ++ xs) (sym e) ∙ w.all }

pub all_written : (old now whole : List ℕ) → Written old now [] whole → now ≡ old ++ whole
all_written old now whole w = w.same ∙ ap (λ xs. old ++ xs) (sym (append-nil w.done) ∙ w.all)

pub stopped : (old now next rest whole : List ℕ) → Written old now rest whole → StartsWith now next → StartsWith old next
stopped old now next rest whole w s = starts_more old now next (record { tail = w.done; same = w.same }) s

-- a spelling by its parts
pub spelling_parts : {V : Type 0} (codec : Codec V) (m : KeyMap V) → spelling codec m ≡ word (length (positions_in m)) ++ (word (map.len m) ++ (flat_map record_bytes (records (map.get m) (stands_in (positions_in m)) 0 1 (positions_in m)) ++ flat_map (node_values codec (map.get m)) (positions_in m)))
spelling_parts codec m =
    ap (λ (n : ℕ). layout codec n (λ k. map.find key_cmp k (map.entries m)) (stands_in (positions_in m)) (positions_in m)) (sym (map.len-entries m))
    ∙ (λ i. layout codec (map.len m) (λ k. sym (map.get-entries m k) i) (stands_in (positions_in m)) (positions_in m))
