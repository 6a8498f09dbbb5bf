use Rattle.std.proofs.Common.{List, [], ◌∷◌, sym, ap, ◌∙◌, subst}
use Rattle.prefix_blocks.specs.declared.store.Cell.{Cell}
use Rattle.prefix_blocks.specs.Cells.{none, lists_of, IsSound}
use Rattle.prefix_blocks.proofs.Takes.{empty_sound}
use Rattle.prefix_blocks.proofs.ListsLaws.{no_lists}
use Rattle.prefix_blocks.proofs.store.Blocks.new.Goals as goal

pub invariant_of-result : goal.invariant_of-result
invariant_of-result g c =
    subst (λ (cells : List (Cell g.row.A.Denot)). IsSound cells (none ∷ none ∷ none ∷ none ∷ none ∷ none ∷ [])) (sym c.new.ensures.items) empty_sound

pub returns : goal.returns
returns g c = ap (λ (cells : List (Cell g.row.A.Denot)). lists_of cells) c.new.ensures.items ∙ no_lists
