use Rattle.std.proofs.Common.{◌≡◌, [], take, sym, ap, ◌∙◌, arith}
use Rattle.prefix_model.proofs.KeyLists.{take_take}
use Rattle.either.specs.Either.{map_either}
use Rattle.either.specs.declared.Either.{Either}
use Rattle.prefix_joint_walks.specs.Joint.{both, joint_walk}
use Rattle.prefix_joint.proofs.CursorLaws.{below_left}
use Rattle.prefix_joint.proofs.map.JointPrefixMap.children_mut.Goals as goal

pub returns-in-Left-clause-left : goal.returns-in-Left-clause-left
returns-in-Left-clause-left g c =
    let m = c.args.self.now in
    let p = c.in-Left.p.now in
    let key = g.P.P1.PrefixKey.key p in
    let len = g.P.P1.PrefixKey.prefix_len p in
    let is = g.met.P.P1.PrefixBits.key_law p in
    let whole : take len key ≡ key = ap (take len) is ∙ take_take (g.P.P1.PrefixKey.bits p) len len (omega arith) ∙ sym is in
    ap (λ es. both es []) (below_left m.t1.entries c.new.result key len whole c.new.ensures.last (c.new.ensures.within ∙ c.from.ensures ∙ c.prefix_len.ensures) c.new.ensures.inclusive)
    ∙ ap (λ (q : Either g.row.P-P1.Denot g.row.P-P2.Denot). joint_walk m.t1.entries m.t2.entries (map_either g.P.P1.PrefixKey.key g.P.P2.PrefixKey.key q)) c.in-Left.ensures

pub returns-in-Right-clause-left : goal.returns-in-Right-clause-left
returns-in-Right-clause-left g c =
    let m = c.args.self.now in
    let p = c.in-Right.p.now in
    let key = g.P.P2.PrefixKey.key p in
    let len = g.P.P2.PrefixKey.prefix_len p in
    let is = g.met.P.P2.PrefixBits.key_law p in
    let whole : take len key ≡ key = ap (take len) is ∙ take_take (g.P.P2.PrefixKey.bits p) len len (omega arith) ∙ sym is in
    ap (λ es. both [] es) (below_left m.t2.entries c.new-in-Right.result key len whole c.new-in-Right.ensures.last
    (c.new-in-Right.ensures.within ∙ c.from-in-Right.ensures ∙ c.prefix_len-in-Right.ensures) c.new-in-Right.ensures.inclusive)
    ∙ ap (λ (q : Either g.row.P-P1.Denot g.row.P-P2.Denot). joint_walk m.t1.entries m.t2.entries (map_either g.P.P1.PrefixKey.key g.P.P2.PrefixKey.key q)) c.in-Right.ensures
