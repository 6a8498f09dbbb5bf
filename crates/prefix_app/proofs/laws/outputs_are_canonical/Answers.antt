use Rattle.prefix_app.proofs.laws.outputs_are_canonical.Goals as goal

pub returns : goal.returns
returns c = c.compacting_is_canonical.ensures 32 128
