-- How a new group is formed, and what is mounted.
use Rattle.std.specs.Prelude.{◌≡◌, ⊤, ℕ, ◌*◌, ◌≤◌, List, Some, IsTrue}
use Rattle.bay.specs.Counts.{Rose}
use Rattle.bay.specs.Image.{ChangesOnly, Image}
use Rattle.bay.specs.Moments.{Runs}
use Rattle.bay.specs.State.{BayState, KeepsAttached}
use Rattle.asm_formats.specs.Bytes.{block_size}
use Rattle.asm_formats.specs.Header.{is_header}
use Rattle.asm_formats.specs.Regions.{region_end}
use Rattle.asm_group.specs.Refusal as r
use Rattle.asm_group.specs.Shape.{Shape}
use Rattle.asm_formats.specs.Among.{IsAmong}
use Rattle.mounted_groups.specs.catalog_tables.Faults.{IsCatalogOf}
use Rattle.mounted_groups.specs.catalog_tables.Tables.{Catalogued}
use Rattle.directory_store.specs.Stores.{Keeps}
use Rattle.disk_images.specs.Headers.{HasHeaderSlot}
use Rattle.mounted_groups.specs.Mounting.{by_number}
use Rattle.mounted_groups.specs.group_engine.Making.{group_of_parts}
use Rattle.mounted_groups.specs.group_engine.Mounts.{MountedGroup}
use Rattle.disk_images.specs.disk_forming.Gates.{HasAttachedRegion}
use Rattle.mounted_groups.specs.group_recovery.Verdicts.{IsSlotIn}
use Rattle.mounted_groups.specs.group_recovery.declared.finding.Headed.{Headed}
use Rattle.status_register.specs.Keeping.{IsRegisterReady}
use Rattle.status_register.specs.Writes.{first_register}
use Rattle.new_groups.specs.Drafts.{copy_list, disk_list, member_list}
use Rattle.new_groups.specs.declared.draft.Draft.{Draft}
use Rattle.new_groups.specs.declared.forming.FormError.{FormError}
use Rattle.new_groups.specs.declared.forming.FormError.TheVariants.{Fault, NoMemory}
use Rattle.new_groups.specs.declared.forming.Formed.{Formed}

-- no disk changes but these
abbrev pub OnDisks : List Headed → Image → Image → Type 0
OnDisks hs = ChangesOnly (λ slot k. IsSlotIn hs slot)

-- Calls on these disks alone.
pub record Works (hs : List Headed) (s t : BayState) : Type 0 where
  pub attached : KeepsAttached s t
  pub runs : Runs (IsSlotIn hs) (OnDisks hs) s t

-- one of the disks failed, the one in the slot that is named
abbrev pub FormCause : List Headed → BayState → BayState → FormError → Type 0
FormCause hs s t (Fault slot) = IsSlotIn hs slot × Rose (s.faults slot) (t.faults slot)
FormCause hs s t NoMemory = ⊤

-- The directories and the register are those of the draft.
pub record AreParts (d : Draft) (f : Formed) : Type 0 where
  pub copies : f.store.copies ≡ copy_list d.status.directories d.disks.items
  pub register : f.register ≡ first_register d.status (member_list d.disks.items)

-- and they take the next call
pub record IsFormed (d : Draft) (f : Formed) (state : BayState) : Type 0 where
  pub parts : AreParts d f
  pub keeps : Keeps f.store state
  pub ready : IsRegisterReady f.register state

-- the group is that of the draft, with the catalog of its records
pub record IsMountedOf (d : Draft) (f : Formed) (m : MountedGroup) : Type 0 where
  pub catalog : Catalogued
  pub is_catalog : IsCatalogOf f.store.table.records d.status.entries catalog
  pub shape : catalog.shape ≡ d.shape
  pub is : m ≡ group_of_parts d.name catalog f.store f.register (by_number (disk_list d.disks.items))

-- ---- conditions

-- each disk reaches to the end of the directory region of a group of this shape
abbrev pub AreLong : Shape → List Headed → BayState → Type 0
AreLong s hs state = (h : Headed) → IsAmong hs h → HasAttachedRegion state h.slot s.sector s.dir_blocks

-- the disk may get its header
pub record IsHeadable (h : Headed) (state : BayState) : Type 0 where
  pub header : IsTrue (is_header h.header)
  pub place : HasHeaderSlot state h.slot h.header.shape.sector

abbrev pub AreHeadable : List Headed → BayState → Type 0
AreHeadable hs state = (h : Headed) → IsAmong hs h → IsHeadable h state

-- the disk is attached, and reaches to the end of its directory region
pub record IsDisk (h : Headed) (state : BayState) : Type 0 where
  pub attached : state.attached h.slot ≡ Some h.size
  pub long : region_end h.header.shape.dir_blocks * block_size ≤ h.size

abbrev pub AreDisks : List Headed → BayState → Type 0
AreDisks hs state = (h : Headed) → IsAmong hs h → IsDisk h state

-- ---- refusals

-- the disk of a slot is named, or there was no memory
abbrev pub IsFaultOf : List Headed → ℕ → r.Refusal → Type 0
IsFaultOf hs slot (r.WriteFault name) = (h : Headed) × IsAmong hs h × (h.slot ≡ slot) × (h.header.disk ≡ name)
IsFaultOf hs slot r.NoMemory = ⊤
IsFaultOf hs slot other = ⊥

abbrev pub IsErrorSaid : List Headed → FormError → r.Refusal → Type 0
IsErrorSaid hs (Fault slot) refusal = IsFaultOf hs slot refusal
IsErrorSaid hs NoMemory refusal = refusal ≡ r.NoMemory

-- the disk that is named failed, or there was no memory
abbrev pub IsFormRefusal : List Headed → r.Refusal → BayState → BayState → Type 0
IsFormRefusal hs (r.WriteFault name) s t = (h : Headed) × IsAmong hs h × (h.header.disk ≡ name) × Rose (s.faults h.slot) (t.faults h.slot)
IsFormRefusal hs r.NoMemory s t = ⊤
IsFormRefusal hs other s t = ⊥
