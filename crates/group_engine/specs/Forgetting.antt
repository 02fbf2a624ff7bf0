-- Copies that are given up.
use Rattle.std.specs.Prelude.{◌≡◌, ℕ, ◌<◌, ◌≤◌, Bool, true, false, List, length, ◌↔◌, Option, Some, None}
use Rattle.asm_formats.specs.Sets.{has_bit}
use Rattle.asm_formats.specs.Among.{IsAmong}
use Rattle.directory_store.specs.change_directory.declared.copy.DirCopy.{DirCopy}
use Rattle.directory_store.specs.Stores.{Stored, without_copies}
use Rattle.group_engine.specs.Mounts.{slot_at}
use Rattle.group_engine.specs.declared.attached.Attached.{Attached}

-- a disk that isn't in the set, where it is attached, has no copy in the store any more
abbrev pub Forgets : Bool → Option Attached → Stored → Stored → Type 0
Forgets true place old new = new ≡ old
Forgets false None old new = new ≡ old
Forgets false (Some attached) old new = new ≡ without_copies attached.slot old

-- the copy is on one of the first disks that aren't in the set
abbrev pub IsUnnamed : List (Option Attached) → ℕ → ℕ → DirCopy → Type 0
IsUnnamed disks named front c = (d : ℕ) × (d < front) × (has_bit named d ≡ false) × (slot_at disks d ≡ Some c.slot)

-- Of the copies on the first disks those are left whose disks are in the set.
pub record KeepsNamed (old new : Stored) (disks : List (Option Attached)) (named front : ℕ) : Type 0 where
  pub table : new.table ≡ old.table
  pub number : new.number ≡ old.number
  pub many : length new.copies ≤ length old.copies
  pub copies : (c : DirCopy) → IsAmong new.copies c ↔ (IsAmong old.copies c × (IsUnnamed disks named front c → ⊥))
