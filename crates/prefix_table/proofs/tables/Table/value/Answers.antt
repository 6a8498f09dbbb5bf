use Rattle.std.proofs.Common.{arith, ap, sym, ◌∙◌, is_some, ◌++◌}
use Rattle.std.specs.FinMap as map
use Rattle.prefix_model.specs.Positions.{data_bits}
use Rattle.prefix_model.specs.TableViews.{position_at}
use Rattle.prefix_model.proofs.MaskBits.{bit_set_from}
use Rattle.prefix_table.proofs.StoreLaws.{slot_below}
use Rattle.prefix_table.proofs.TrieReads.{seen, node_seen, data_bits_are, entry_at}
use Rattle.prefix_table.proofs.tables.Table.value.Goals as goal

pub node_of-requires-clause-named : goal.node_of-requires-clause-named
node_of-requires-clause-named g c = ap is_some (seen c.self.inside.trie c.self.invariant.0 c.args.self.now c.at.inside.index c.args.at c.self.view_is c.at.view_is c.requires.named).named

pub node_of-requires-clause-within : goal.node_of-requires-clause-within
node_of-requires-clause-within g c = (seen c.self.inside.trie c.self.invariant.0 c.args.self.now c.at.inside.index c.args.at c.self.view_is c.at.view_is c.requires.named).limit

pub item_of-requires-clause-set : goal.item_of-requires-clause-set
item_of-requires-clause-set g c =
    let t = c.self.inside.trie in
    let v = c.args.self.now in
    let s = seen t c.self.invariant.0 v c.at.inside.index c.args.at c.self.view_is c.at.view_is c.requires.named in
    let here = node_seen t v c.at.inside.index c.node_of.result.now s c.node_of.ensures in
    bit_set_from c.node_of.result.now.data_bits c.args.bit
    (rw (data_bits_are t c.self.invariant.0 (position_at v c.at.inside.index) c.node_of.result.now here ∙ (λ j. data_bits (map.get (c.self.view_is j).entries) (position_at v (c.at.view_is j)))) c.requires.set)

pub item_of-requires-clause-slot : goal.item_of-requires-clause-slot
item_of-requires-clause-slot g c =
    let t = c.self.inside.trie in
    let v = c.args.self.now in
    let s = seen t c.self.invariant.0 v c.at.inside.index c.args.at c.self.view_is c.at.view_is c.requires.named in
    let here = node_seen t v c.at.inside.index c.node_of.result.now s c.node_of.ensures in
    let set = bit_set_from c.node_of.result.now.data_bits c.args.bit (rw (data_bits_are t c.self.invariant.0 (position_at v c.at.inside.index) c.node_of.result.now here ∙ (λ j. data_bits (map.get (c.self.view_is j).entries) (position_at v (c.at.view_is j)))) c.requires.set) in
    let below = slot_below c.node_of.result.now.data_bits c.args.bit 31 set (c.self.invariant.0.each _ _ here).data_within in
    omega (arith, below)

pub item_of-requires-clause-count : goal.item_of-requires-clause-count
item_of-requires-clause-count g c =
    let t = c.self.inside.trie in
    let v = c.args.self.now in
    let s = seen t c.self.invariant.0 v c.at.inside.index c.args.at c.self.view_is c.at.view_is c.requires.named in
    (c.self.invariant.0.each _ _ (node_seen t v c.at.inside.index c.node_of.result.now s c.node_of.ensures)).values

pub returns : goal.returns
returns g c = λ k place_is.
    let t = c.self.inside.trie in
    let v = c.args.self.now in
    let s = seen t c.self.invariant.0 v c.at.inside.index c.args.at c.self.view_is c.at.view_is c.requires.named in
    let here = node_seen t v c.at.inside.index c.node_of.result.now s c.node_of.ensures in
    (λ j. map.get (sym c.self.view_is j).entries (position_at v (sym c.at.view_is j) ++ k))
    ∙ entry_at t c.self.invariant.0 (position_at v c.at.inside.index) c.node_of.result.now here c.args.bit k place_is
    ∙ c.item_of.ensures
