use Rattle.std.proofs.Common.{rules, arith, ◌<◌, ◌+◌, ◌*◌, ◌^◌}
use Rattle.prefix_text.proofs.FormLaws.{hexadecimal_fits, product_fits}
use Rattle.prefix_text.proofs.forms.parse_address.Goals as goal

pub overflow_mul-number : goal.overflow_mul-number
overflow_mul-number c =
    let h : c.loop-byte.number * 16 < 2 ^ 128 = product_fits c.loop-byte.number c.loop-byte.byte-index c.loop-byte.invariant.small (omega arith) in search rules

pub overflow_add-number : goal.overflow_add-number
overflow_add-number c =
    let h : c.loop-byte.number * 16 + c.from.result < 2 ^ 128 = hexadecimal_fits c.loop-byte.number c.loop-byte.byte-index c.from.result c.loop-byte.invariant.small (omega arith) (search rules) in search rules
