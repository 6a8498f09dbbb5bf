use Rattle.std.proofs.Common.{List, ℕ, [], length, sym, ap, ◌∙◌, arith}
use Rattle.std.specs.Option.{unwrap_or}
use Rattle.prefix_blocks.specs.declared.store.Cell.{Cell}
use Rattle.prefix_blocks.specs.Blocks.{BlocksView, list_named}
use Rattle.prefix_blocks.specs.Cells.{list_at}
use Rattle.prefix_blocks.proofs.ListsLaws.{named_is}
use Rattle.prefix_blocks.proofs.ItemLaws.{named_few}
use Rattle.prefix_blocks.proofs.store.tests.count_of.Goals as goal

pub overflow_cast-result : goal.overflow_cast-result
overflow_cast-result c =
    let few = named_few c.blocks-2.inside.cells.items c.blocks-2.inside.free c.args.at c.blocks-2.invariant in
    let count = c.items_at.ensures ∙ ap (λ (cells : List (Cell ℕ)). length (unwrap_or (list_at cells c.args.at) [])) c.deref.ensures.value
    ∙ ap length (sym (named_is c.blocks-2.inside.cells.items c.args.at)) in
    omega arith

pub returns : goal.returns
returns c =
    let few = named_few c.blocks-2.inside.cells.items c.blocks-2.inside.free c.args.at c.blocks-2.invariant in
    let count = c.items_at.ensures ∙ ap (λ (cells : List (Cell ℕ)). length (unwrap_or (list_at cells c.args.at) [])) c.deref.ensures.value
    ∙ ap length (sym (named_is c.blocks-2.inside.cells.items c.args.at)) in
    record {
      count = count ∙ ap (λ (v : BlocksView ℕ). length (list_named v.lists c.args.at)) c.blocks-2.view_is;
      few = omega arith;
    }
