use Rattle.prefix_model.proofs.Archive.Descent.{leads_down}
use Rattle.prefix_model.proofs.layout.records_lead_down.Goals as goal

pub returns : goal.returns
returns g c = leads_down _
