-- Disks that are to join a group, and what is so of them before the first write.
use Rattle.std.specs.Prelude.{◌≡◌, ℕ, ◌*◌, ◌≤◌, Bool, true, false, ◌&&◌, ◌||◌, ◌==◌, not, is_some, nat_le, List, [], ◌∷◌, length, Some, None, IsTrue, IfErr, OnOk, Result}
use Rattle.bay.specs.Moments.{NowOnly}
use Rattle.bay.specs.State.{BayState}
use Rattle.refusal_lines.specs.declared.refusal.Refusal.{Refusal}
use Rattle.asm_formats.specs.Bytes.{block_size}
use Rattle.asm_formats.specs.Header.{is_header}
use Rattle.asm_formats.specs.Items.{disk_item, is_item}
use Rattle.asm_formats.specs.Regions.{region_end}
use Rattle.asm_formats.specs.Status.{Entry, Status, entry_of}
use Rattle.asm_group.specs.Names.{is_same_name}
use Rattle.asm_group.specs.Shape.{Shape}
use Rattle.asm_images.specs.Kept.{header_in}
use Rattle.asm_formats.specs.Among.{IsAmong}
use Rattle.asm_world.specs.NewDisks.{PlannedDisk}
use Rattle.new_groups.specs.disk_directory.Disks.{Disk, info_at}
use Rattle.file_extents.specs.catalog.Plans.{MayAdd}
use Rattle.disk_images.specs.declared.looking.Looked.{Looked}
use Rattle.new_groups.specs.mounted_groups.Holding.{IsHeldSlot}
use Rattle.file_extents.specs.group_engine.Mounts.{IsMounted, IsOwn, MountedGroup}
use Rattle.new_groups.specs.group_recovery.declared.finding.Headed.{Headed}
use Rattle.new_groups.specs.Drafts.{AreDisksApart}
use Rattle.new_groups.specs.Tests.{are_disks_apart, is_image_there}
use Rattle.disk_joining.specs.Attaching.{has_disk_in_slot}
use Rattle.disk_joining.specs.AddCauses.{JoinCause}
use Rattle.disk_joining.specs.Taking.{TakesIn}
use Rattle.disk_joining.specs.declared.joining.Joining.{Joining}

-- ---- disks

-- A disk that may be written and get its header: its image is attached, reaches to the end of its directory region, and is neither in
-- one of these slots nor the group's own.
pub record IsJoiner (held : List ℕ) (m : MountedGroup) (h : Headed) (state : BayState) : Type 0 where
  pub header : IsTrue (is_header h.header)
  pub sector : h.header.shape.sector ≡ m.catalog.shape.sector
  pub pages : h.header.shape.dir_blocks ≡ m.catalog.shape.dir_blocks
  pub attached : state.attached h.slot ≡ Some h.size
  pub long : region_end h.header.shape.dir_blocks * block_size ≤ h.size
  pub free : IsHeldSlot held h.slot → ⊥
  pub other : IsOwn m h.slot → ⊥

abbrev pub AreJoiners : List ℕ → MountedGroup → List Headed → BayState → Type 0
AreJoiners held m hs state = (h : Headed) → IsAmong hs h → IsJoiner held m h state

-- What joins: the disks may be written, no two of them have one slot or one number, and their records may be put together.
pub record CanJoin (held : List ℕ) (m : MountedGroup) (j : Joining) (state : BayState) : Type 0 where
  pub disks : AreJoiners held m j.disks.items state
  pub apart : AreDisksApart j.disks.items
  pub records : MayAdd m.catalog.tables j.records.items

-- ---- the tests

abbrev pub fits_shape : Shape → Headed → Bool
fits_shape s h = is_header h.header && ((h.header.shape.sector == s.sector) && (h.header.shape.dir_blocks == s.dir_blocks))

abbrev pub are_free : MountedGroup → List Looked → List ℕ → List Headed → Bool
are_free m looked held [] = true
are_free m looked held (h ∷ hs) = fits_shape m.catalog.shape h && ((is_image_there looked held h && not (has_disk_in_slot m.disks h.slot)) && are_free m looked held hs)

-- one of the records is that of the disk of a number
abbrev pub records_disk : List Disk → ℕ → Bool
records_disk [] number = false
records_disk (x ∷ xs) number = (x.0 == number) || records_disk xs number

-- each record is one of the formats, of a disk that has none yet, and no two are of one disk
abbrev pub are_unrecorded : List Disk → List Disk → Bool
are_unrecorded disks [] = true
are_unrecorded disks (x ∷ xs) = is_item (disk_item x.0 x.1) && (not (is_some (info_at disks x.0)) && (not (records_disk xs x.0) && are_unrecorded disks xs))

abbrev pub may_join : MountedGroup → List Looked → List ℕ → Joining → Bool
may_join m looked held j = nat_le (length j.records.items) 64 && (are_free m looked held j.disks.items && (are_disks_apart j.disks.items && are_unrecorded m.catalog.tables.disks j.records.items))

-- the disks are those that are asked for, in their order: they have their names, and the numbers that these are given
abbrev pub are_asked : List Headed → List PlannedDisk → List ℕ → Bool
are_asked [] [] ns = true
are_asked (h ∷ hs) (d ∷ ds) (n ∷ ns) = is_same_name h.header.disk d.name && ((h.header.number == n) && are_asked hs ds ns)
are_asked hs ds ns = false

-- the disk has an entry of its birth
abbrev pub is_entered : Status → Headed → Bool
is_entered r h = elim (entry_of r.entries h.header.number) [ None ↦ false | Some e ↦ e.birth == h.header.birth ]

abbrev pub are_entered : Status → List Headed → Bool
are_entered r [] = true
are_entered r (h ∷ hs) = is_entered r h && are_entered r hs

-- ---- once they are joined

-- The status record has an entry of the disk's number with its birth.
pub record HasEntryWithBirth (r : Status) (h : Headed) : Type 0 where
  pub entry : Entry
  pub there : entry_of r.entries h.header.number ≡ Some entry
  pub birth : entry.birth ≡ h.header.birth

abbrev pub AreEntered : Status → List Headed → Type 0
AreEntered r hs = (h : Headed) → IsAmong hs h → HasEntryWithBirth r h

-- each image that a stop now may leave has the disk's header
abbrev pub ShowsHeader : Headed → BayState → Type 0
ShowsHeader h state = NowOnly state (λ image. header_in image h.slot ≡ Some h.header)

abbrev pub ShowHeaders : List Headed → BayState → Type 0
ShowHeaders hs state = (h : Headed) → IsAmong hs h → ShowsHeader h state

-- The disks that were asked for have joined: each shows its header, and has an entry of the header's number and birth.
pub record HaveJoined (asked : List PlannedDisk) (numbers : List ℕ) (m : MountedGroup) (state : BayState) : Type 0 where
  pub disks : List Headed
  pub asked_for : are_asked disks asked numbers ≡ true
  pub headers : ShowHeaders disks state
  pub entries : AreEntered m.register.value disks

-- ---- steps

-- Steps by which disks join: what they keep, that the group takes calls once they are done, and why they are refused.
pub record JoinStep (held : List ℕ) (old : MountedGroup) (answer : Result (Unit {0}) Refusal) (new : MountedGroup) (s t : BayState) : Type 0 where
  pub taken : TakesIn held old new s t
  pub mounted : OnOk answer (IsMounted new)
  pub cause : IfErr answer (JoinCause old new s t)
