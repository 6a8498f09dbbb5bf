use Rattle.std.proofs.Common.{◌≡◌, ◌*◌, ◌%◌, ◌^◌, sym, ap, ◌∙◌, arith}
use Rattle.std.proofs.lemmas.Nat.{one_shl}
use Rattle.prefix_blocks.specs.Sizes.{size}
use Rattle.prefix_blocks.proofs.SizeLaws.{sized, size_most}
use Rattle.prefix_blocks.proofs.store.block_size.Goals as goal

pub overflow_shl-result : goal.overflow_shl-result
overflow_shl-result c = let most = (sized c.args.count c.requires).most in let is = c.order_of.ensures in omega (arith, most, is)

pub returns-clause-size : goal.returns-clause-size
returns-clause-size c =
    let s = sized c.args.count c.requires in
    one_shl c.order_of.result 64 (let most = s.most in let is = c.order_of.ensures in omega (arith, most, is)) ∙ ap (λ n. 2 ^ n) c.order_of.ensures ∙ sym s.power

pub returns-clause-limit : goal.returns-clause-limit
returns-clause-limit c =
    let s = sized c.args.count c.requires in
    let is : 1 * 2 ^ c.order_of.result % 18446744073709551616 ≡ size c.args.count =
    one_shl c.order_of.result 64 (let most = s.most in let is = c.order_of.ensures in omega (arith, most, is)) ∙ ap (λ n. 2 ^ n) c.order_of.ensures ∙ sym s.power in
    let most = size_most c.args.count c.requires in
    omega (arith, is, most)
