-- The prefixes that iterators give.
use Rattle.std.proofs.Common.{◌≡◌, ℕ, ◌-◌, ◌≤◌, false, ◌++◌, length, take, replicate, sym, ◌∙◌, subst, arith, length-take}
use Rattle.prefix_model.specs.Keys.{KeyBits}
use Rattle.prefix_table.specs.declared.prefixes.PrefixKey.{Ghosts}
use Rattle.prefix_map.specs.Items.{IsItem}

-- a prefix that was made of an integer of w bits and a length
pub made_item : {P : Type 0} (w : ℕ) (g : Ghosts P) (p : P) (repr : KeyBits) (n : ℕ) → length repr ≡ w → n ≤ w → g.prefix_len p ≡ n → g.bits p ≡ take n repr ++ replicate (w - n) false → g.key p ≡ take n repr → IsItem w g p (take n repr)
made_item w g p repr n whole fits size bits_are key_is =
    let short : length (take n repr) ≡ n = omega (arith, whole, fits, length-take n repr) in
    record {
      key_is = key_is;
      length_is = size ∙ sym short;
      fits = omega (arith, fits, size);
      bits_are = bits_are ∙ (λ i. take n repr ++ replicate (w - sym short i) false);
    }

-- a prefix by its own key
pub item_itself : {P : Type 0} (w : ℕ) (g : Ghosts P) (p : P) (k : KeyBits) → IsItem w g p k → IsItem w g p (g.key p)
item_itself w g p k item = subst (IsItem w g p) (sym item.key_is) item
