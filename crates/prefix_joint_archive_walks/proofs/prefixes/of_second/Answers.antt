use Rattle.prefix_joint_archive_walks.proofs.ZeroHostBits.{is_item, second_bare}
use Rattle.prefix_joint_archive_walks.proofs.prefixes.of_second.Goals as goal

pub returns-clause-host_bits : goal.returns-clause-host_bits
returns-clause-host_bits g c =
    let p = c.args.prefix.now in
    let item = is_item g.P.P2.R.Bits.WIDTH g.P.P2.PrefixKey p (g.met.P.P2.PrefixBits.length_law p) c.requires.length c.requires.bits in
    second_bare g.P.P1.R.Bits.WIDTH g.P.P1.PrefixKey g.P.P2.R.Bits.WIDTH g.P.P2.PrefixKey _ p c.from_p2.ensures item
