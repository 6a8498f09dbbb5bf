use Rattle.std.proofs.Common.{◌≡◌, ℕ, zero, suc, ◌<◌, cond, refl, arith, get_or}
use Rattle.std.specs.Int.{bit_at}
use Rattle.prefix_aggregate.specs.declared.coverage.TheConstants.{LEVELS}
use Rattle.prefix_model.specs.Bits.{in_level}
use Rattle.prefix_model.proofs.Bitmaps.WordBits.{const_bits, in_level-above}
use Rattle.prefix_aggregate.proofs.coverage.level_mask.Goals as goal

-- the bits of each level
level_bits : (l b : ℕ) → l < 5 → bit_at (get_or LEVELS l 0) b ≡ cond (in_level l b) 1 0
level_bits zero b s = const_bits 1 (in_level 0) (omega arith) refl (λ k past. in_level-above 0 k (omega arith)) b
level_bits (suc zero) b s = const_bits 6 (in_level 1) (omega arith) refl (λ k past. in_level-above 1 k (omega arith)) b
level_bits (suc (suc zero)) b s = const_bits 120 (in_level 2) (omega arith) refl (λ k past. in_level-above 2 k (omega arith)) b
level_bits (suc (suc (suc zero))) b s = const_bits 32640 (in_level 3) (omega arith) refl (λ k past. in_level-above 3 k (omega arith)) b
level_bits (suc (suc (suc (suc zero)))) b s = const_bits 2147450880 (in_level 4) (omega arith) refl (λ k past. in_level-above 4 k (omega arith)) b
level_bits (suc (suc (suc (suc (suc l))))) b s = absurd (omega arith)

pub returns : goal.returns
returns c = λ b. level_bits c.args.level b c.requires
