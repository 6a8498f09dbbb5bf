-- Nodes of archives.
--     record_of_prop      a record is that of a node in one way
use Rattle.std.specs.Coded.{Coded, Coded-set, coded_ℕ, coded_list, coded_bool, coded_option}
use Rattle.prefix_model.specs.Keys.{KeyBits}
use Rattle.prefix_model.specs.Tables.{KeyMap}
use Rattle.prefix_model.specs.Positions.{NodeRecord}
use Rattle.prefix_model.specs.InPlace.{IsRecordOf}

pub record_of_prop : {V : Type 0} → Coded V → (m : KeyMap V) (p : KeyBits) (r : NodeRecord) → IsProp (IsRecordOf m p r)
record_of_prop code m p r = hlevel (Coded-set coded_ℕ, Coded-set (coded_option code), Coded-set (coded_option (coded_list coded_bool)))
