use Rattle.prefix_joint_archive.proofs.families.check_both.Goals as goal

pub returns-clause-spelled : goal.returns-clause-spelled
returns-clause-spelled g c = (c.in_ok-span.ensures.exact.1.len, c.in_ok-span.ensures.spelling, rw c.split_at.ensures.back at c.in_ok-check_single.ensures.spelled)
