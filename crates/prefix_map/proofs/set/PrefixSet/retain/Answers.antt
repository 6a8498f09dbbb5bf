use Rattle.std.proofs.Common.{subst}
use denote.Param.Always.{always_mut, mut_by}
use Rattle.std.specs.FinMap as map
use Rattle.std.specs.List.Retain.{IsFiltered}
use Rattle.prefix_map.specs.MapViews.{MapView}
use Rattle.prefix_map.specs.Retains.{IsMemberAsked}
use Rattle.prefix_map.proofs.RetainLaws.{members_asked}
use Rattle.prefix_map.proofs.set.PrefixSet.retain.Goals as goal

pub retain-requires : goal.retain-requires
retain-requires g c = mut_by _ (λ s. always_mut g.F.FnMut s.0.now) (λ s a i. i) (λ s a r t i e. search parts 8) _ c.requires

pub returns-clause-entries : goal.returns-clause-entries
returns-clause-entries g c =
    let told = members_asked g.P.R.Bits.WIDTH g.P.PrefixKey _ g.F.FnMut (λ s. s.0.now) (λ s prefix value r t e. search parts 8) _ _ _ c.retain.ensures.entries in
    subst (λ (v : MapView (Unit {0})). IsFiltered (IsMemberAsked g.P.R.Bits.WIDTH g.P.PrefixKey g.F.FnMut) c.args.f (map.entries v.entries) (map.entries c.retain.new.self.entries)) c.self.view_is told
