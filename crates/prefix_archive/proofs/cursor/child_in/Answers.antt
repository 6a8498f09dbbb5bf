use Rattle.std.proofs.Common.{◌≡◌, ◌+◌, ◌*◌, ◌^◌, ◌<◌, ◌≤◌, ◌++◌, true, ℕ, sym, ap, ◌∙◌, subst, arith}
use Rattle.std.specs.Prelude.{IsBitSet}
use Rattle.prefix_model.specs.Keys.{low_bits}
use Rattle.prefix_model.specs.InPlace.{IsRecordOf, is_position}
use Rattle.prefix_table.specs.Records.{node_record}
use Rattle.prefix_archive.proofs.Cursors.{bit_is_set, child_position, child_path, path_within, slot_place, child_there, child_depth}
use Rattle.prefix_archive.proofs.cursor.child_in.Goals as goal

pub child_of-node-requires-clause-node : goal.child_of-node-requires-clause-node
child_of-node-requires-clause-node g c = let self = c.args.cursor.now in (low_bits self.depth self.path, self.stands)

pub child_of-node-requires-clause-set : goal.child_of-node-requires-clause-set
child_of-node-requires-clause-set g c = let self = c.args.cursor.now in bit_is_set self.node.child_bits c.args.bit (subst (λ n. IsBitSet n c.args.bit) (sym self.stands.child_bits_are) c.requires.set)

pub overflow_mul-result : goal.overflow_mul-result
overflow_mul-result g c =
    let self = c.args.cursor.now in
    let m = self.map.table.entries in
    let w : ℕ = g.P.R.Bits.WIDTH in
    let position = low_bits self.depth self.path in
    let set = bit_is_set self.node.child_bits c.args.bit (subst (λ n. IsBitSet n c.args.bit) (sym self.stands.child_bits_are) c.requires.set) in
    let there : is_position m (position ++ low_bits 5 c.args.bit) ≡ true = child_there m position (node_record self.node) self.stands c.args.bit c.requires.place set in
    let down : self.depth + 5 ≤ w = child_depth m w self.depth self.path c.args.bit self.map.table.spelled.width there in
    let most : w ≤ 128 = g.met.P.R.Bits.greatest_width_law in
    let fits = path_within self.depth self.path c.args.bit c.requires.place self.small (omega arith) in
    omega (arith, fits)

pub overflow_add-result : goal.overflow_add-result
overflow_add-result g c =
    let self = c.args.cursor.now in
    let m = self.map.table.entries in
    let w : ℕ = g.P.R.Bits.WIDTH in
    let position = low_bits self.depth self.path in
    let set = bit_is_set self.node.child_bits c.args.bit (subst (λ n. IsBitSet n c.args.bit) (sym self.stands.child_bits_are) c.requires.set) in
    let there : is_position m (position ++ low_bits 5 c.args.bit) ≡ true = child_there m position (node_record self.node) self.stands c.args.bit c.requires.place set in
    let down : self.depth + 5 ≤ w = child_depth m w self.depth self.path c.args.bit self.map.table.spelled.width there in
    let most : w ≤ 128 = g.met.P.R.Bits.greatest_width_law in
    let fits = path_within self.depth self.path c.args.bit c.requires.place self.small (omega arith) in
    omega (arith, fits, c.from.ensures)

pub invariant_of-result : goal.invariant_of-result
invariant_of-result g c =
    let self = c.args.cursor.now in
    let m = self.map.table.entries in
    let w : ℕ = g.P.R.Bits.WIDTH in
    let position = low_bits self.depth self.path in
    let set = bit_is_set self.node.child_bits c.args.bit (subst (λ n. IsBitSet n c.args.bit) (sym self.stands.child_bits_are) c.requires.set) in
    let there : is_position m (position ++ low_bits 5 c.args.bit) ≡ true = child_there m position (node_record self.node) self.stands c.args.bit c.requires.place set in
    let down : self.depth + 5 ≤ w = child_depth m w self.depth self.path c.args.bit self.map.table.spelled.width there in
    let most : w ≤ 128 = g.met.P.R.Bits.greatest_width_law in
    let number : c.from.result ≡ c.args.bit = c.from.ensures in
    let new : low_bits (self.depth + 5) (self.path * 32 + c.from.result) ≡ position ++ low_bits 5 c.args.bit
    = ap (λ k. low_bits (self.depth + 5) (self.path * 32 + k)) number ∙ child_position self.depth self.path c.args.bit c.requires.place in
    record {
      stands = subst (λ k. IsRecordOf m k (node_record c.child_of-node.result)) (sym new) (c.child_of-node.ensures.child position (low_bits 5 c.args.bit) self.stands (slot_place c.args.bit c.requires.place));
      kept = ap (is_position m) new ∙ there;
      small = subst (λ k. self.path * 32 + k < 2 ^ (self.depth + 5)) (sym number) (child_path self.depth self.path c.args.bit c.requires.place self.small);
      within = down;
    }

pub returns-clause-position : goal.returns-clause-position
returns-clause-position g c =
    let self = c.args.cursor.now in
    let m = self.map.table.entries in
    let w : ℕ = g.P.R.Bits.WIDTH in
    let position = low_bits self.depth self.path in
    let set = bit_is_set self.node.child_bits c.args.bit (subst (λ n. IsBitSet n c.args.bit) (sym self.stands.child_bits_are) c.requires.set) in
    let there : is_position m (position ++ low_bits 5 c.args.bit) ≡ true = child_there m position (node_record self.node) self.stands c.args.bit c.requires.place set in
    let down : self.depth + 5 ≤ w = child_depth m w self.depth self.path c.args.bit self.map.table.spelled.width there in
    let most : w ≤ 128 = g.met.P.R.Bits.greatest_width_law in
    let number : c.from.result ≡ c.args.bit = c.from.ensures in
    let new : low_bits (self.depth + 5) (self.path * 32 + c.from.result) ≡ position ++ low_bits 5 c.args.bit
    = ap (λ k. low_bits (self.depth + 5) (self.path * 32 + k)) number ∙ child_position self.depth self.path c.args.bit c.requires.place in
    new
