use Rattle.std.proofs.Common.{ap, ◌∙◌, is_some}
use Rattle.std.specs.FinMap as map
use Rattle.prefix_model.specs.Positions.{data_bits, child_bits}
use Rattle.prefix_model.specs.TableViews.{position_at}
use Rattle.prefix_table.proofs.TrieReads.{seen, node_seen, data_bits_are, child_bits_are}
use Rattle.prefix_table.proofs.tables.Table.node.Goals as goal

pub node_of-node-requires-clause-named : goal.node_of-node-requires-clause-named
node_of-node-requires-clause-named g c = ap is_some (seen c.self.inside.trie c.self.invariant.0 c.args.self.now c.at.inside.index c.args.at c.self.view_is c.at.view_is c.requires).named

pub node_of-node-requires-clause-within : goal.node_of-node-requires-clause-within
node_of-node-requires-clause-within g c = (seen c.self.inside.trie c.self.invariant.0 c.args.self.now c.at.inside.index c.args.at c.self.view_is c.at.view_is c.requires).limit

pub returns-clause-data : goal.returns-clause-data
returns-clause-data g c =
    let t = c.self.inside.trie in
    let v = c.args.self.now in
    let s = seen t c.self.invariant.0 v c.at.inside.index c.args.at c.self.view_is c.at.view_is c.requires in
    let here = node_seen t v c.at.inside.index c.node_of-node.result.now s c.node_of-node.ensures in
    data_bits_are t c.self.invariant.0 (position_at v c.at.inside.index) c.node_of-node.result.now here
    ∙ (λ j. data_bits (map.get (c.self.view_is j).entries) (position_at v (c.at.view_is j)))

pub returns-clause-children : goal.returns-clause-children
returns-clause-children g c =
    let t = c.self.inside.trie in
    let v = c.args.self.now in
    let s = seen t c.self.invariant.0 v c.at.inside.index c.args.at c.self.view_is c.at.view_is c.requires in
    let here = node_seen t v c.at.inside.index c.node_of-node.result.now s c.node_of-node.ensures in
    child_bits_are t c.self.invariant.0 (position_at v c.at.inside.index) c.node_of-node.result.now here
    ∙ (λ j. child_bits (map.contains_key (c.self.view_is j).kept) (position_at v (c.at.view_is j)))
