use Rattle.std.proofs.Common.{sym, ◌∙◌, subst, arith}
use Rattle.std.specs.Option.{option_copied}
use Rattle.prefix_model.specs.TableViews.{position_at}
use Rattle.prefix_aggregate.specs.Reading.{StandsAt, node_lists}
use Rattle.prefix_aggregate.proofs.StoringLaws.{mask_within, mask_is, masks_rest, masks_left, lists_within, lists_rest, lists_left, is_read}
use Rattle.prefix_aggregate.proofs.writing.read_node.Goals as goal

pub read_mask-mask-requires : goal.read_mask-mask-requires
read_mask-mask-requires g c = mask_within g.T.Ord.cmp g.R.Bits.WIDTH c.args.table.now (position_at c.args.table.now c.args.at) (option_copied c.args.inherited) c.args.sets.now.masks c.args.next.now.mask c.requires.masks

pub read_lists-list-requires : goal.read_lists-list-requires
read_lists-list-requires g c =
    let p = position_at c.args.table.now c.args.at in
    let v = option_copied c.args.inherited in
    let mask = mask_is g.T.Ord.cmp g.R.Bits.WIDTH c.args.table.now p v c.args.sets.now.masks c.args.next.now.mask c.read_mask-mask.result c.requires.masks c.read_mask-mask.ensures.mask in
    let h = lists_within g.T.Ord.cmp g.R.Bits.WIDTH c.args.table.now p v c.read_mask-mask.result mask c.args.sets.now.lists c.args.next.now.list c.requires.lists in
    let e = c.read_mask-mask.ensures.lists in
    omega (arith, h, e)

pub returns-clause-read : goal.returns-clause-read
returns-clause-read g c =
    let p = position_at c.args.table.now c.args.at in
    let v = option_copied c.args.inherited in
    let mask = mask_is g.T.Ord.cmp g.R.Bits.WIDTH c.args.table.now p v c.args.sets.now.masks c.args.next.now.mask c.read_mask-mask.result c.requires.masks c.read_mask-mask.ensures.mask in
    let first = c.read_lists-list.ensures.first ∙ c.read_mask-mask.ensures.lists in
    is_read g.T.Ord.cmp c.requires.order g.R.Bits.WIDTH c.args.table.now c.args.sets.now p _ mask
    (subst (λ i. StandsAt c.args.sets.now.lists i (node_lists g.T.Ord.cmp g.R.Bits.WIDTH c.args.table.now p v)) (sym first) c.requires.lists)
    c.bits_within-bits.ensures.data
    (λ h. c.bits_within-bits.ensures.children (let e = c.requires.depth in omega (arith, e, h)))
    (λ h. c.bits_within-bits.ensures.no_children (let e = c.requires.depth in omega (arith, e, h)))
    c.inner_places-inner.ensures

pub returns-clause-masks : goal.returns-clause-masks
returns-clause-masks g c =
    masks_rest g.T.Ord.cmp g.R.Bits.WIDTH c.args.table.now (position_at c.args.table.now c.args.at) (option_copied c.args.inherited) c.args.sets.now.masks c.args.next.now.mask _ c.requires.masks (c.read_lists-list.ensures.masks ∙ c.read_mask-mask.ensures.masks)

pub returns-clause-masks_left : goal.returns-clause-masks_left
returns-clause-masks_left g c =
    masks_left g.T.Ord.cmp g.R.Bits.WIDTH c.args.table.now (position_at c.args.table.now c.args.at) (option_copied c.args.inherited) c.args.next.now.mask _ (c.read_lists-list.ensures.masks ∙ c.read_mask-mask.ensures.masks)

pub returns-clause-lists : goal.returns-clause-lists
returns-clause-lists g c =
    let p = position_at c.args.table.now c.args.at in
    let v = option_copied c.args.inherited in
    let mask = mask_is g.T.Ord.cmp g.R.Bits.WIDTH c.args.table.now p v c.args.sets.now.masks c.args.next.now.mask c.read_mask-mask.result c.requires.masks c.read_mask-mask.ensures.mask in
    lists_rest g.T.Ord.cmp g.R.Bits.WIDTH c.args.table.now p v c.read_mask-mask.result mask c.args.sets.now.lists c.args.next.now.list _ c.requires.lists
    (let e = c.read_lists-list.ensures.lists in let f = c.read_mask-mask.ensures.lists in omega (arith, e, f))

pub returns-clause-lists_left : goal.returns-clause-lists_left
returns-clause-lists_left g c =
    let p = position_at c.args.table.now c.args.at in
    let v = option_copied c.args.inherited in
    let mask = mask_is g.T.Ord.cmp g.R.Bits.WIDTH c.args.table.now p v c.args.sets.now.masks c.args.next.now.mask c.read_mask-mask.result c.requires.masks c.read_mask-mask.ensures.mask in
    lists_left g.T.Ord.cmp g.R.Bits.WIDTH c.args.table.now p v c.read_mask-mask.result mask c.args.next.now.list _
    (let e = c.read_lists-list.ensures.lists in let f = c.read_mask-mask.ensures.lists in omega (arith, e, f))
