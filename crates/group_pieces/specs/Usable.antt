-- The usable copies of an extent of a mounted group, and where a piece of it stands on them.
use Rattle.std.specs.Prelude.{ℕ, ◌+◌, ◌*◌, ◌≤◌, List, [], ◌∷◌, get_or, if◌then◌else◌, nat_le, nat_lt, Option, Some, None}
use Rattle.std.specs.Option.{option_map, unwrap_or}
use Rattle.bay.specs.State.{IsOnSectors}
use Rattle.asm_group.specs.Shape.{Shape}
use Rattle.asm_base.specs.declared.kinds.ExtentId.{ExtentId}
use Rattle.asm_formats.specs.Items.{Home}
use Rattle.asm_formats.specs.Among.{IsAmong}
use Rattle.asm_placement.specs.Layout.{units_of}
use Rattle.asm_images.specs.Describing.{extent_size}
use Rattle.asm_images.specs.Spans.{Span}
use Rattle.record_laws.specs.extent_map.Extents.{absent_homes, extent_at}
use Rattle.record_laws.specs.catalog_tables.Rules.{marks_of}
use Rattle.record_laws.specs.extent_copies.declared.extent.Extent.{Extent}
use Rattle.record_laws.specs.extent_copies.Extents.{can_be_read_at}
use Rattle.record_laws.specs.group_engine.declared.attached.Attached.{Attached}
use Rattle.record_laws.specs.group_engine.Mounts.{MountedGroup, slot_at}
use Rattle.group_pieces.specs.declared.copies.Place.{Place}

-- n bytes from an inner byte on lie in the extent, on sectors
pub record FitsExtent (s : Shape) (i inner n : ℕ) : Type 0 where
  pub inside : inner + n ≤ extent_size s i
  pub sectors : IsOnSectors inner n

-- n bytes from an inner byte of an extent on
abbrev pub piece_of : ExtentId → ℕ → ℕ → Span
piece_of x inner n = record { file = x.file; index = x.index; from = inner; len = n }

-- the size of the image of disk k
abbrev pub size_at : List (Option Attached) → ℕ → Option ℕ
size_at disks k = option_map (λ (a : Attached). a.size) (get_or disks k None)

-- the extent as the tables have it, with the numbers of three copies
abbrev pub extent_of : MountedGroup → ExtentId → Extent
extent_of m x = record {
  id = x;
  homes = unwrap_or (extent_at m.catalog.tables.extents x.file x.index) absent_homes;
  marks = marks_of m.catalog.tables x.file x.index;
  copies = 3;
  units = units_of m.catalog.shape.step x.index;
}

-- ---- one copy

-- where the inner byte is in an image of this size, if the copy ends in it
abbrev pub in_image : MountedGroup → Home → ℕ → ℕ → ℕ → ℕ → Option Place
in_image m h units inner slot size =
    if nat_le ((h.unit + units) * m.catalog.shape.au) size then Some (record { disk = h.disk; slot = slot; at = h.unit * m.catalog.shape.au + inner }) else None

abbrev pub on_slot : MountedGroup → Home → ℕ → ℕ → ℕ → Option ℕ → Option Place
on_slot m h units inner slot None = None
on_slot m h units inner slot (Some size) = in_image m h units inner slot size

abbrev pub on_disk : MountedGroup → Home → ℕ → ℕ → Option ℕ → Option Place
on_disk m h units inner None = None
on_disk m h units inner (Some slot) = on_slot m h units inner slot (size_at m.disks h.disk)

-- where the inner byte of a copy at a home is, if its disk is attached
abbrev pub at_home : MountedGroup → Option Home → ℕ → ℕ → Option Place
at_home m None units inner = None
at_home m (Some h) units inner = if nat_lt h.disk 64 then on_disk m h units inner (slot_at m.disks h.disk) else None

-- where it is on copy k, if that is usable: it isn't stale, and its disk serves
abbrev pub place_on_copy : MountedGroup → Extent → ℕ → ℕ → Option Place
place_on_copy m x inner k = if can_be_read_at m.register.value.entries x k then at_home m (get_or x.homes k None) x.units inner else None

-- where it is on the usable copies
abbrev pub places_in : MountedGroup → Extent → ℕ → List (Option Place)
places_in m x inner = place_on_copy m x inner 0 ∷ place_on_copy m x inner 1 ∷ place_on_copy m x inner 2 ∷ []

abbrev pub places_at : MountedGroup → ExtentId → ℕ → List (Option Place)
places_at m x inner = places_in m (extent_of m x) inner

-- none of the places is there
abbrev pub AreNone : List (Option Place) → Type 0
AreNone places = (p : Place) → IsAmong places (Some p) → ⊥

-- no copy of the extent is usable
abbrev pub HasNoUsableCopy : MountedGroup → ExtentId → Type 0
HasNoUsableCopy m x = AreNone (places_at m x 0)

-- the disk of the first place that is there
abbrev pub first_disk : List (Option Place) → Option ℕ
first_disk [] = None
first_disk (None ∷ places) = first_disk places
first_disk (Some p ∷ places) = Some p.disk
