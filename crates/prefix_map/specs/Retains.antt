-- What `retain` asks about each entry.
--     IsEntryAsked w prefix f s e r t      f, in the state s, was called with the prefix of the entry e and a reference to its value; it answered r and is now in the state t
--     IsMemberAsked w prefix f s e r t      the same with the prefix alone
use Rattle.std.specs.Prelude.{◌≡◌, ℕ, Bool}
use Rattle.std.specs.Borrow.{Bor}
use Rattle.std.specs.Fn.{Called}
use denote.Param.Members.{Mut}
use Rattle.prefix_model.specs.Keys.{KeyBits}
use Rattle.prefix_table.specs.declared.prefixes.PrefixKey.{Ghosts}
use Rattle.prefix_map.specs.Items.{IsItem}

pub record IsEntryAsked {F P T : Type 0} (w : ℕ) (g : Ghosts P) (f : Mut F (Bor P × (Bor T × Unit {0})) Bool) (s : F) (e : KeyBits × T) (r : Bool) (t : F) : Type 0 where
  pub prefix : Bor P
  pub item : IsItem w g prefix.now e.0
  pub shown : Bor T
  pub shows : shown.now ≡ e.1
  pub called : Called f s (prefix, (shown, tt)) r t

pub record IsMemberAsked {F P : Type 0} (w : ℕ) (g : Ghosts P) (f : Mut F (Bor P × Unit {0}) Bool) (s : F) (e : KeyBits × Unit {0}) (r : Bool) (t : F) : Type 0 where
  pub prefix : Bor P
  pub item : IsItem w g prefix.now e.0
  pub called : Called f s (prefix, tt) r t
