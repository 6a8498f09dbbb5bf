-- What is written of two tables is read again.
use Rattle.std.proofs.Common.{ℕ, List, ◌++◌, refl}
use Rattle.prefix_model.specs.Tables.{KeyMap}
use Rattle.prefix_model.specs.Spelling.{Codec, Spells, SpellsPair, spelling}
use Rattle.prefix_model.proofs.Archive.Spelled.{spells_one_pair, spelled_pair}
use Rattle.prefix_joint_archive.specs.Written.{IsWritable, ReadsWrittenPair}

module _ {V : Type 0} (codec : Codec V) where
  spells_written : (w : ℕ) (m : KeyMap V) → IsWritable codec w m → Spells codec w (spelling codec m) m
  spells_written w m h = record { width = h.width; positions_fit = h.positions_fit; entries_fit = h.entries_fit; values = h.values; same = refl }

  pub reads_written_pair : ReadsWrittenPair codec
  reads_written_pair v w first second h k =
      let bytes : List ℕ = spelling codec first ++ spelling codec second in
      let s : SpellsPair codec v w bytes first second =
      record { front = spelling codec first; rest = spelling codec second; first_spelled = spells_written v first h; second_spelled = spells_written w second k; joined = refl } in
      (spelled_pair codec v w bytes first second s, λ m n t. spells_one_pair codec v w bytes m n first second t s)
