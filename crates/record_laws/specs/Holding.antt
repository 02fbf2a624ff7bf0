-- What the disks hold of a group by a later record.
use Rattle.std.specs.Prelude.{ℕ, IsTrue}
use Rattle.std.specs.Option.{is_some}
use Rattle.bay.specs.Image.{Image}
use Rattle.bay.specs.State.{BayState}
use Rattle.asm_group.specs.Group.{Group}
use Rattle.asm_formats.specs.Header.{Header}
use Rattle.asm_formats.specs.Status.{Status, entry_of}
use Rattle.asm_images.specs.Copies.{is_kept}
use Rattle.asm_images.specs.RecordLaws.{ChangesModes}
use Rattle.group_engine.specs.catalog_tables.Tables.{Tables}
use Rattle.group_engine.specs.group_of.Describing.{HaveGroup}
use Rattle.group_engine.specs.Becoming.{HoldsIn}
use Rattle.group_engine.specs.Mounts.{MountedGroup}
use Rattle.record_laws.specs.Getting.{ChangesDisks}

-- Of the disks that have an entry in r none is kept by s that isn't by r.
abbrev pub KeepsNoMore : Status → Status → Type 0
KeepsNoMore r s = (d : ℕ) (h : Header) → IsTrue (is_some (entry_of r.entries d)) → IsTrue (is_kept s d h) → IsTrue (is_kept r d h)

-- What the disks hold of a group by the record that describes it with these tables they hold by such a later one.
abbrev pub LaterRecordHolds : Type 0
LaterRecordHolds = (id : ℕ) (r s : Status) (t : Tables) (g : Group) (image : Image) → HaveGroup r t g → KeepsNoMore r s → HoldsIn id r t g image → HoldsIn id s t g image

-- ---- such records

-- one that changes modes
abbrev pub ModesKeepNoMore : Type 0
ModesKeepNoMore = (r s : Status) → ChangesModes r s → KeepsNoMore r s

-- one by which disks come or go
abbrev pub DisksKeepNoMore : BayState → Type 0
DisksKeepNoMore s = (m : MountedGroup) (next : Status) → ChangesDisks m next s → KeepsNoMore m.register.value next
