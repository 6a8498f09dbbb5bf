use Rattle.prefix_model.proofs.MaskBits.{data_mask_tells, child_mask_tells, masks_meet, masks_fit}
use Rattle.prefix_model.proofs.masks.masks_tell_places.Goals as goal

pub returns-clause-places : goal.returns-clause-places
returns-clause-places c = data_mask_tells

pub returns-clause-children : goal.returns-clause-children
returns-clause-children c = child_mask_tells

pub returns-clause-meet : goal.returns-clause-meet
returns-clause-meet c = masks_meet

pub returns-clause-fit : goal.returns-clause-fit
returns-clause-fit c = masks_fit
