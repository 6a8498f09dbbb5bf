-- How many entries there are after a change.
use Rattle.std.specs.Prelude.{◌≡◌, ◌≢◌, ℕ, ◌+◌, ◌-◌, Option, Some, None, is_some, true, false, cond}
use Rattle.std.proofs.Common.{sym, ap, ◌∙◌, Bor, arith}
use Rattle.std.specs.Option.{option_copied}
use Rattle.std.specs.FinMap as map
use Rattle.prefix_model.specs.Keys.{KeyBits, key_cmp}
use Rattle.prefix_model.specs.Tables.{KeyMap}
use Rattle.prefix_model.proofs.Order.{key_total}
use Rattle.prefix_model.specs.TableViews.{TableView}

pub counted_new : {T : Type 0} (old new : KeyMap T) (key : KeyBits) (v : T) (before : Option T) (len : ℕ) → before ≡ map.get old key → new ≡ map.insert old key v → before ≡ None → len ≡ map.len old → len + 1 ≡ map.len new
counted_new old new key v before len was is none count =
    let absent : map.contains_key old key ≡ false = ap is_some (sym was ∙ none) in
    ap (λ n. n + 1) count
    ∙ sym (ap map.len is ∙ map.len-insert key_total old key v ∙ ap (λ b. cond b (map.len old) (map.len old + 1)) absent)

pub counted_same : {T : Type 0} (old new : KeyMap T) (key : KeyBits) (v : T) (before : Option T) (b : T) (len : ℕ) → before ≡ map.get old key → new ≡ map.insert old key v → before ≡ Some b → len ≡ map.len old → len ≡ map.len new
counted_same old new key v before b len was is some count =
    let there : map.contains_key old key ≡ true = ap is_some (sym was ∙ some) in
    count
    ∙ sym (ap map.len is ∙ map.len-insert key_total old key v ∙ ap (λ b. cond b (map.len old) (map.len old + 1)) there)

-- a key that is stored is taken away
pub counted_less : {T : Type 0} (old new : KeyMap T) (key : KeyBits) (x : T) (len : ℕ) → map.get old key ≡ Some x → new ≡ map.remove old key → len ≡ map.len old → (len ≡ map.len new + 1)
counted_less {T} old new key x len some is count =
    let there : map.contains_key old key ≡ true = ap is_some some in
    let less : map.len (map.remove old key) ≡ map.len old - 1 = map.len-remove key_total old key ∙ ap (λ b. cond b (map.len old - 1) (map.len old)) there in
    let same_len = ap map.len is in
    let some_entry = not_empty old key x some in
    omega (arith, less, same_len, some_entry, count)
  where
    not_empty : (m : KeyMap T) (k : KeyBits) (y : T) → map.get m k ≡ Some y → map.len m ≢ 0
    not_empty m k y e z = let none = ap (λ (l : KeyMap T). map.get l k) (map.empty_of_len m z) ∙ map.get-empty key_cmp k in absurd cc

-- a stored key is found
pub not_absent : {T : Type 0} (old view : TableView T) (key : KeyBits) (found : Option (Bor T)) (before : Option T) → old ≡ view → option_copied found ≡ map.get view.entries key → is_some found ≡ true
    → before ≡ map.get old.entries key → before ≡ None → ⊥
not_absent old view key None before e found some stored none = cc
not_absent old view key (Some x) before e found some stored none =
    let same_entry : map.get old.entries key ≡ map.get view.entries key = (λ j. map.get (e j).entries key) in
    let copied : Some x.now ≡ map.get view.entries key = found in
    cc
