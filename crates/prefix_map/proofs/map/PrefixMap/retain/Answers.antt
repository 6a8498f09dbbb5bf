use Rattle.std.proofs.Common.{subst}
use denote.Param.Always.{always_mut, mut_by}
use Rattle.std.specs.FinMap as map
use Rattle.std.specs.List.Retain.{IsFiltered}
use Rattle.prefix_map.specs.MapViews.{MapView}
use Rattle.prefix_map.specs.Retains.{IsEntryAsked}
use Rattle.prefix_map.proofs.RetainLaws.{entries_asked, fits_retained}
use Rattle.prefix_map.proofs.map.PrefixMap.retain.Goals as goal

pub retain-requires-clause-callable : goal.retain-requires-clause-callable
retain-requires-clause-callable g c = mut_by _ (λ s. always_mut g.F.FnMut s.0.now) (λ s a i. i) (λ s a r t i e. search parts 8) _ c.requires

pub invariant_of-self : goal.invariant_of-self
invariant_of-self g c = fits_retained _ _ g.P.PrefixKey.WIDTH c.self.inside.table c.retain.new.self c.self.invariant c.retain.ensures.entries c.retain.ensures.kept

pub returns-clause-entries : goal.returns-clause-entries
returns-clause-entries g c =
    let told = entries_asked g.P.R.Bits.bits g.P.R.Bits.WIDTH g.met.P.R.Bits.length_law _ g.P.PrefixKey g.F.FnMut (λ s. s.0.now) (λ s key len value r t e. search parts 8) _ _ _ c.retain.ensures.entries in
    subst (λ (v : MapView g.row.T.Denot). IsFiltered (IsEntryAsked g.P.R.Bits.WIDTH g.P.PrefixKey g.F.FnMut) c.args.f (map.entries v.entries) (map.entries c.retain.new.self.entries)) c.self.view_is told
