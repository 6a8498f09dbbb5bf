use Rattle.std.proofs.Common.{rules}
use Rattle.prefix_aggregate.proofs.BitLaws.{members_above, members_above_slots}
use Rattle.prefix_aggregate.proofs.bits.member_coverage.Goals as goal

pub returns-clause-bits : goal.returns-clause-bits
returns-clause-bits c = members_above c.args.data_bits c.push_l0-first.result c.push_l1-second.result c.push_l2-third.result c.push_l3-fourth.result (search rules) c.push_l0-first.ensures c.push_l1-second.ensures c.push_l2-third.ensures c.push_l3-fourth.ensures

pub returns-clause-slots : goal.returns-clause-slots
returns-clause-slots c = members_above_slots c.args.data_bits c.push_l0-first.result c.push_l1-second.result c.push_l2-third.result c.push_l3-fourth.result (search rules) c.push_l0-first.ensures c.push_l1-second.ensures c.push_l2-third.ensures c.push_l3-fourth.ensures c.push_l4-slots.result c.push_l4-slots.ensures
