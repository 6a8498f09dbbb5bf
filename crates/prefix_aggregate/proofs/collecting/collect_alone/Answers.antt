use Rattle.std.specs.Prelude.{set}
use Rattle.std.proofs.Common.{◌-◌, ◌∙◌, ◌++◌, ◌∷◌, [], replicate, arith, refl, sym, ap, subst}
use Rattle.std.proofs.lemmas.List.{get_or-replicate}
use Rattle.prefix_model.specs.TableViews.{position_at}
use Rattle.prefix_aggregate.specs.Parts.{IsPart}
use Rattle.prefix_aggregate.specs.Stacks.{kept_lists}
use Rattle.prefix_aggregate.specs.Trees.{given}
use Rattle.prefix_aggregate.specs.Reading.{place_key, node_masks, node_lists}
use Rattle.prefix_aggregate.specs.Collecting.{AreParts}
use Rattle.prefix_aggregate.proofs.BelowLaws.{given_part, position_long}
use Rattle.prefix_aggregate.proofs.CollectingLaws.{leaf_collected, node_candidates, masks_kept, lists_kept, masks_none, lists_none, alone_mask, alone_list, bare_bit}
use Rattle.prefix_aggregate.proofs.ReadingLaws.{nothing_left}
use Rattle.prefix_aggregate.proofs.collecting.collect_alone.Goals as goal

pub returns-clause-part : goal.returns-clause-part
returns-clause-part g c = given_part g.T.Ord.cmp c.answer_of.new.work.values.items c.in_ok-answer.answer c.in_ok-answer.ensures.part

pub returns-clause-kept : goal.returns-clause-kept
returns-clause-kept g c = c.in_ok-answer.ensures.kept

pub returns-clause-candidates : goal.returns-clause-candidates
returns-clause-candidates g c =
    let view = c.args.table.now in
    let p = position_at view c.args.node.now.at in
    let w = g.R.Bits.WIDTH in
    let v = given c.args.work.now.values.items c.args.inherited in
    let old = c.args.work.now.values.items in
    let new = c.answer_of.new.work.values.items in
    let whole = position_long view c.requires.holds c.args.node.now.at c.requires.named in
    let source = c.requires.source in
    let bit = bare_bit c.args.node.now.inner c.requires.alone in
    let parts : AreParts g.T.Ord.cmp c.args.work.now.values.items (replicate 31 c.args.inherited) = λ b h. subst (IsPart g.T.Ord.cmp c.args.work.now.values.items) (sym (get_or-replicate 31 b c.args.inherited _ h)) (given_part g.T.Ord.cmp c.args.work.now.values.items c.args.inherited c.requires.inherited) in
    let found = leaf_collected g.met.T.Ord.total w view c.requires.holds c.requires.width p whole c.args.node.now source 0 (omega arith) v bit old new (replicate 31 c.args.inherited) c.in_ok-answer.answer refl c.in_ok-answer.ensures.kept parts c.in_ok-answer.ensures.part c.in_ok-answer.ensures.value in
    let after = set (replicate 31 c.args.inherited) 0 c.in_ok-answer.answer in
    node_candidates g.met.T.Ord.total w view c.requires.holds c.requires.width p whole c.args.node.now source v old new (replicate 31 c.args.inherited) after c.in_ok-answer.answer found

pub returns-clause-masks : goal.returns-clause-masks
returns-clause-masks g c =
    let view = c.args.table.now in
    let p = position_at view c.args.node.now.at in
    let w = g.R.Bits.WIDTH in
    let v = given c.args.work.now.values.items c.args.inherited in
    let old = c.args.work.now.values.items in
    let new = c.answer_of.new.work.values.items in
    let whole = position_long view c.requires.holds c.args.node.now.at c.requires.named in
    let source = c.requires.source in
    let bit = bare_bit c.args.node.now.inner c.requires.alone in
    let parts : AreParts g.T.Ord.cmp c.args.work.now.values.items (replicate 31 c.args.inherited) = λ b h. subst (IsPart g.T.Ord.cmp c.args.work.now.values.items) (sym (get_or-replicate 31 b c.args.inherited _ h)) (given_part g.T.Ord.cmp c.args.work.now.values.items c.args.inherited c.requires.inherited) in
    let found = leaf_collected g.met.T.Ord.total w view c.requires.holds c.requires.width p whole c.args.node.now source 0 (omega arith) v bit old new (replicate 31 c.args.inherited) c.in_ok-answer.answer refl c.in_ok-answer.ensures.kept parts c.in_ok-answer.ensures.part c.in_ok-answer.ensures.value in
    let after = set (replicate 31 c.args.inherited) 0 c.in_ok-answer.answer in
    let none = nothing_left w view p c.args.node.now.bits.data_bits c.args.node.now.bits.child_bits c.args.node.now.inner source.children source.inner (node_masks g.T.Ord.cmp w view) 31 0 (omega arith) (omega arith) bit (p ++ place_key 0) refl v in
    masks_kept g.met.T.Ord.total w view c.requires.holds c.requires.width p whole c.args.node.now source v old new (replicate 31 c.args.inherited) after c.in_ok-answer.answer found
    c.deref.result.now c.deref.ensures.value c.args.stacks.now.masks.items c.args.stacks.now.masks.items c.add_mask.new.stacks.masks.items (masks_none _ c.args.stacks.now.masks.items none)
    (c.in_ok-add_mask.ensures.masks ∙ (λ i. c.in_ok-add_part.ensures.masks i ++ sym (alone_mask g.T.Ord.cmp c.deref.result.now after c.args.node.now.inner c.requires.alone) i ∷ []))

pub returns-clause-lists : goal.returns-clause-lists
returns-clause-lists g c =
    let view = c.args.table.now in
    let p = position_at view c.args.node.now.at in
    let w = g.R.Bits.WIDTH in
    let v = given c.args.work.now.values.items c.args.inherited in
    let old = c.args.work.now.values.items in
    let new = c.answer_of.new.work.values.items in
    let whole = position_long view c.requires.holds c.args.node.now.at c.requires.named in
    let source = c.requires.source in
    let bit = bare_bit c.args.node.now.inner c.requires.alone in
    let parts : AreParts g.T.Ord.cmp c.args.work.now.values.items (replicate 31 c.args.inherited) = λ b h. subst (IsPart g.T.Ord.cmp c.args.work.now.values.items) (sym (get_or-replicate 31 b c.args.inherited _ h)) (given_part g.T.Ord.cmp c.args.work.now.values.items c.args.inherited c.requires.inherited) in
    let found = leaf_collected g.met.T.Ord.total w view c.requires.holds c.requires.width p whole c.args.node.now source 0 (omega arith) v bit old new (replicate 31 c.args.inherited) c.in_ok-answer.answer refl c.in_ok-answer.ensures.kept parts c.in_ok-answer.ensures.part c.in_ok-answer.ensures.value in
    let after = set (replicate 31 c.args.inherited) 0 c.in_ok-answer.answer in
    let none = nothing_left w view p c.args.node.now.bits.data_bits c.args.node.now.bits.child_bits c.args.node.now.inner source.children source.inner (node_lists g.T.Ord.cmp w view) 31 0 (omega arith) (omega arith) bit (p ++ place_key 0) refl v in
    lists_kept g.met.T.Ord.total w view c.requires.holds c.requires.width p whole c.args.node.now source v old new (replicate 31 c.args.inherited) after c.in_ok-answer.answer found
    c.deref.result.now c.deref.ensures.value (kept_lists c.args.stacks.now) (kept_lists c.args.stacks.now) (kept_lists c.add_mask.new.stacks) (lists_none _ (kept_lists c.args.stacks.now) none)
    (c.in_ok-add_mask.ensures.lists ∙ c.in_ok-add_part.ensures.lists ∙ ap (λ l. l ++ kept_lists c.args.stacks.now) (sym (alone_list g.T.Ord.cmp c.deref.result.now after c.args.node.now.inner c.requires.alone)))
