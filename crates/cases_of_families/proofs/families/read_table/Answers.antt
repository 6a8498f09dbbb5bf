use Rattle.std.proofs.Common.{ℕ, List, take, sym, ◌∙◌, subst}
use Rattle.prefix_model.specs.Tables.{KeyMap}
use Rattle.prefix_model.specs.Spelling.{u32_codec, Spells}
use Rattle.cases_of_families.proofs.families.read_table.Goals as goal

pub read_family-requires : goal.read_family-requires
read_family-requires g c =
    let Spelled : ℕ → List ℕ → Type 0 = λ w bytes. (m : KeyMap ℕ) × Spells u32_codec w (take c.in_ok-span.span.len bytes) m in
    subst (Spelled g.R.Bits.WIDTH) (c.deref.ensures.value ∙ sym c.deref-2.ensures.value) (subst (λ w. Spelled w c.deref.result.now) c.WIDTH.ensures c.in_ok-span.ensures.spelling)
