-- Files: how they come and go, and their bytes. Of dbwrite and dbfill it is proved what they do, and of dbread where the disks stand for the
-- world.
use Rattle.std.specs.Prelude.{⊤, ℕ, Bool, true, false, List}
use Rattle.bay.specs.Counts.{Rose}
use Rattle.asm_group.specs.Names.{Bytes}
use Rattle.asm_group.specs.Refusal as r
use Rattle.asm_world.specs.Command.{Command, Asked, DbWrite, DbFill}
use Rattle.asm_world.specs.World.{World}
use Rattle.session_claims.specs.mounted_groups.Found.{Counts}

-- which write bytes of a file that is there
abbrev pub writes_bytes : Command → Bool
writes_bytes (Asked (DbWrite path at bytes)) = true
writes_bytes (Asked (DbFill path at size byte)) = true
writes_bytes other = false

-- of which it is proved on each bay what they do
abbrev pub is_proved : Command → Bool
is_proved c = writes_bytes c

-- none makes a group
abbrev pub IsMadeByFileCommand : Command → ℕ → World → Type 0
IsMadeByFileCommand c id w = ⊥

-- the slot of some disk failed
abbrev pub SomeSlotFailed : Counts → Counts → Type 0
SomeSlotFailed s t = (slot : ℕ) × Rose (s.faults slot) (t.faults slot)

-- a write fails only where a slot did
abbrev pub IsWriteRefused : r.Refusal → Counts → Counts → Type 0
IsWriteRefused (r.WriteFault disk) s t = SomeSlotFailed s t
IsWriteRefused other s t = ⊤

-- Of the others no cause is counted.
abbrev pub IsRefused : List Bytes → Command → r.Refusal → Counts → Counts → Type 0
IsRefused paths (Asked (DbWrite path at bytes)) cause s t = IsWriteRefused cause s t
IsRefused paths (Asked (DbFill path at size byte)) cause s t = IsWriteRefused cause s t
IsRefused paths other cause s t = ⊤
