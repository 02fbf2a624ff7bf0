-- How a mounted group begins, and whether it takes calls.
use Rattle.std.specs.Prelude.{◌≡◌, ℕ, List, Option, Some, None}
use Rattle.asm_group.specs.Names.{Bytes}
use Rattle.refusal_lines.specs.declared.refusal.DiskRef.TheVariants as disk
use Rattle.refusal_lines.specs.declared.refusal.Refusal.{Refusal}
use Rattle.refusal_lines.specs.declared.refusal.Refusal.TheVariants as cause
use Rattle.rebalance.specs.catalog_tables.Tables.{Catalogued}
use Rattle.directory_store.specs.Stores.{Stored}
use Rattle.status_register.specs.Registered.{Registered}
use Rattle.group_engine.specs.Mounts.{MountedGroup}
use Rattle.group_engine.specs.declared.access.Access.{Access}
use Rattle.group_engine.specs.declared.access.Access.TheVariants.{Mounted, Dismounted, Closed}
use Rattle.group_engine.specs.declared.attached.Attached.{Attached}

-- a group that takes calls, of these parts
abbrev pub group_of_parts : Bytes → Catalogued → Stored → Registered → List (Option Attached) → MountedGroup
group_of_parts name catalog store register disks = record {
  name = name;
  catalog = catalog;
  store = store;
  register = register;
  disks = disks;
  flight = None;
  access = Mounted;
}

-- the disk by which it was dismounted
abbrev pub dismounted_by : Access → Option ℕ
dismounted_by Mounted = None
dismounted_by (Dismounted disk) = Some disk
dismounted_by Closed = None

-- after a want of memory behind a commit
abbrev pub access_after_closing : Access → Access
access_after_closing Mounted = Closed
access_after_closing (Dismounted disk) = Dismounted disk
access_after_closing Closed = Closed

-- why a group takes no calls
abbrev pub IsShut : Access → Refusal → Type 0
IsShut Mounted refusal = ⊥
IsShut (Dismounted d) refusal = refusal ≡ cause.Dismounted (disk.Number d)
IsShut Closed refusal = refusal ≡ cause.NoMemory
