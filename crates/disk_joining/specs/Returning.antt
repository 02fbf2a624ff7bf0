-- The images of disks that come back.
use Rattle.std.specs.Prelude.{◌≡◌, ℕ, ◌+◌, ◌*◌, Bool, false, ◌&&◌, ◌||◌, ◌==◌, not, nat_le, List, [], ◌∷◌, get_or, slice_get, Option, Some, None}
use Rattle.std.specs.List.{list_any}
use Rattle.bay.specs.State.{BayState}
use Rattle.asm_formats.specs.Header.{Header}
use Rattle.asm_formats.specs.Status.{Entry}
use Rattle.disk_images.specs.declared.looking.Looked.{Looked}
use Rattle.disk_images.specs.declared.looking.Looked.TheVariants.{Absent, Unread, Read}
use Rattle.file_extents.specs.group_engine.Mounts.{MountedGroup, slot_at}
use Rattle.disk_joining.specs.Attaching.{has_disk_in_slot}
use Rattle.disk_joining.specs.declared.attaching.DiskImage.{DiskImage}

-- ---- which image is a disk

-- an image of so many bytes with this header is the disk of an entry of the id's group: it has its number and birth, and room for its units
abbrev pub is_image_of_entry : ℕ → Entry → Header → ℕ → Bool
is_image_of_entry id e h size = (h.id == id) && ((h.number == e.number) && ((h.birth == e.birth) && nat_le (e.units * h.shape.au) size))

-- a look has shown the disk of an entry
abbrev pub shows_disk : ℕ → Entry → Looked → Bool
shows_disk id e Absent = false
shows_disk id e (Unread size) = false
shows_disk id e (Read size None) = false
shows_disk id e (Read size (Some h)) = is_image_of_entry id e h size

-- so it is, where there was a look
abbrev pub shows_at : ℕ → Entry → Option Looked → Bool
shows_at id e None = false
shows_at id e (Some looked) = shows_disk id e looked

-- the slot is neither one of the group's own disks nor one of these
abbrev pub is_slot_free : List ℕ → MountedGroup → ℕ → Bool
is_slot_free held m slot = not (has_disk_in_slot m.disks slot) && not (list_any (λ s. s == slot) held)

-- one of the looks at the slots from this one on has shown the disk of an entry, in a slot that is free
abbrev pub shows_in_free : List ℕ → MountedGroup → Entry → List Looked → ℕ → Bool
shows_in_free held m e [] slot = false
shows_in_free held m e (looked ∷ more) slot = (shows_disk m.register.value.id e looked && is_slot_free held m slot) || shows_in_free held m e more (slot + 1)

-- The disk of an entry is there, by looks at all slots: where a disk of its number is attached, that one's slot shows it, and else a free slot does.
abbrev pub is_present : List Looked → List ℕ → MountedGroup → Entry → Bool
is_present looked held m e = elim (slot_at m.disks e.number) [
  | None ↦ shows_in_free held m e looked 0
  | Some slot ↦ shows_at m.register.value.id e (slice_get looked slot)
]

-- ---- images that are attached

-- an image of so many bytes was read
abbrev pub IsSize : Looked → ℕ → Type 0
IsSize looked size = (header : Option Header) × (looked ≡ Read size header)

-- the image was read in its slot
abbrev pub IsShownAs : List Looked → DiskImage → Type 0
IsShownAs looked image = IsSize (get_or looked image.slot Absent) image.size

-- so it was, by looks at the slots from this one on
abbrev pub IsShownFrom : ℕ → List Looked → DiskImage → Type 0
IsShownFrom slot looked image = (i : ℕ) × (image.slot ≡ slot + i) × IsSize (get_or looked i Absent) image.size

-- each image that was read is attached with its size
abbrev pub AreShown : List Looked → BayState → Type 0
AreShown looked state = (slot size : ℕ) → IsSize (get_or looked slot Absent) size → state.attached slot ≡ Some size
