-- What the bits of masks tell. The contracts of `masks` say that it holds.
--     DataMaskTells, ChildMaskTells      a bit is set exactly where its place, or its child, passes the test
--     MasksMeet      the bits that two masks share are those that pass both tests
--     MasksFit      a mask of places has 31 bits, and one of children 32
use Rattle.std.specs.Prelude.{◌≡◌, ℕ, ◌^◌, ◌<◌, ◌&&◌, Bool, cond, Some, slice_get, bit_and}
use Rattle.std.specs.Int.{bit_at}
use Rattle.prefix_model.specs.Keys.{KeyBits, low_bits}
use Rattle.prefix_model.specs.Positions.{data_places}
use Rattle.prefix_model.specs.Masks.{data_mask, child_mask}

abbrev pub DataMaskTells : Type 0
DataMaskTells = (test : KeyBits → Bool) (b : ℕ) (s : KeyBits) → slice_get data_places b ≡ Some s → bit_at (data_mask test) b ≡ cond (test s) 1 0

abbrev pub ChildMaskTells : Type 0
ChildMaskTells = (test : KeyBits → Bool) (c : ℕ) → c < 32 → bit_at (child_mask test) c ≡ cond (test (low_bits 5 c)) 1 0

abbrev pub MasksMeet : Type 0
MasksMeet = (f g : KeyBits → Bool) → (bit_and (data_mask f) (data_mask g) ≡ data_mask (λ k. f k && g k)) × (bit_and (child_mask f) (child_mask g) ≡ child_mask (λ k. f k && g k))

abbrev pub MasksFit : Type 0
MasksFit = (test : KeyBits → Bool) → (data_mask test < 2 ^ 31) × (child_mask test < 2 ^ 32)
