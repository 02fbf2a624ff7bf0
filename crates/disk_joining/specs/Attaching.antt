-- An image that is to be attached as a disk of a group.
use Rattle.std.specs.Prelude.{◌≤◌, ℕ, Bool, false, ◌||◌, ◌==◌, List, [], ◌∷◌, Option, Some, None}
use Rattle.asm_formats.specs.Regions.{least_size}
use Rattle.new_groups.specs.mounted_groups.Holding.{IsHeldSlot}
use Rattle.file_extents.specs.group_engine.Members.{HasPlace}
use Rattle.file_extents.specs.group_engine.Mounts.{IsMounted, MountedGroup}
use Rattle.file_extents.specs.group_engine.declared.attached.Attached.{Attached}
use Rattle.status_register.specs.declared.member.Member.{Member}
use Rattle.disk_joining.specs.declared.attaching.DiskImage.{DiskImage}

-- ---- slots

abbrev pub is_in : Option Attached → ℕ → Bool
is_in None slot = false
is_in (Some a) slot = a.slot == slot

-- one of the attached disks is in the slot
abbrev pub has_disk_in_slot : List (Option Attached) → ℕ → Bool
has_disk_in_slot [] slot = false
has_disk_in_slot (a ∷ disks) slot = is_in a slot || has_disk_in_slot disks slot

-- ---- images

-- the disk as the register sees it
abbrev pub member_of_image : MountedGroup → DiskImage → Member
member_of_image m image = record { slot = image.slot; number = image.number; birth = image.birth; sector = m.catalog.shape.sector }

-- The group takes calls and has a place for the disk, the image is long enough, and in none of these slots.
pub record IsAttachable (held : List ℕ) (m : MountedGroup) (image : DiskImage) : Type 0 where
  pub mounted : IsMounted m
  pub place : HasPlace m (member_of_image m image)
  pub long : least_size ≤ image.size
  pub free : IsHeldSlot held image.slot → ⊥
