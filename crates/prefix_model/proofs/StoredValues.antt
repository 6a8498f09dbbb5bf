-- What a table answers at a key that was stored.
use Rattle.std.specs.Prelude.{is_some}
use Rattle.std.specs.Ordering.{eq_by_cmp, is_eq}
use Rattle.std.specs.Cmp.{tied_itself}
use Rattle.std.specs.FinMap as map
use Rattle.std.proofs.Common.{◌≡◌, Bool, true, false, cond, Option, Some, refl, sym, ap, ◌∙◌, None}
use Rattle.prefix_model.specs.Keys.{KeyBits, key_cmp}
use Rattle.prefix_model.specs.Tables.{KeyMap}
use Rattle.prefix_model.proofs.Order.{key_total, key_exact}

module _ {T : Type 0} where
  -- the last of two values at a key stays
  pub insert_twice : (m : KeyMap T) (key : KeyBits) (v x : T) → map.insert (map.insert m key v) key x ≡ map.insert m key x
  insert_twice m key v x = map.same_map key_total key_exact _ _ (λ q.
      map.get-insert key_total (map.insert m key v) key x q
      ∙ ap (cond (eq_by_cmp key_cmp q key) (Some x)) (map.get-insert key_total m key v q)
      ∙ once (eq_by_cmp key_cmp q key) (map.get m q)
      ∙ sym (map.get-insert key_total m key x q))
    where
      once : (b : Bool) (o : Option T) → cond b (Some x) (cond b (Some v) o) ≡ cond b (Some x) o
      once true o = refl
      once false o = refl

  pub get_stored : (m : KeyMap T) (key : KeyBits) (v : T) → map.get (map.insert m key v) key ≡ Some v
  get_stored m key v = map.get-insert key_total m key v key ∙ ap (λ r. cond (is_eq r) (Some v) (map.get m key)) (tied_itself key_total key)

  pub contains_stored : (m : KeyMap T) (key : KeyBits) (v : T) → map.contains_key (map.insert m key v) key ≡ true
  contains_stored m key v = ap is_some (get_stored m key v)

pub none_of : {A : Type 0} (o : Option A) → is_some o ≡ false → o ≡ None
none_of None e = refl
none_of (Some x) e = cc
