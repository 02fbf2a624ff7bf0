-- What a write of a piece leaves on the copies of its extent.
use Rattle.std.specs.Prelude.{◌≡◌, ℕ, ◌+◌, ◌*◌, ◌<◌, ◌≤◌, length, Some}
use Rattle.bay.specs.State.{BayState}
use Rattle.bay.specs.Moments.{NowOnly}
use Rattle.asm_group.specs.Names.{Bytes}
use Rattle.asm_base.specs.declared.kinds.ExtentId.{ExtentId}
use Rattle.asm_formats.specs.Items.{Home}
use Rattle.record_laws.specs.group_engine.declared.flight.Flight.{Flight}
use Rattle.record_laws.specs.group_engine.Mounts.{MountedGroup, slot_at}
use Rattle.record_laws.specs.group_engine.Own.{KeepsGroup}
use Rattle.group_pieces.specs.declared.copies.Place.{Place}
use Rattle.group_pieces.specs.Bytes.{UserBytes, WritesBytes}
use Rattle.group_pieces.specs.Copies.{HaveBut, PlacesOf}
use Rattle.group_pieces.specs.Marking.{left_of}
use Rattle.group_pieces.specs.Usable.{places_at}
use Rattle.group_pieces.specs.Writes.{SomeTook}

-- ---- the new copy of a move

-- the place is on the disk of a home, at an inner byte of it
abbrev pub IsPlaceOfHome : MountedGroup → Home → ℕ → Place → Type 0
IsPlaceOfHome m h inner p = (p.disk ≡ h.disk) × (p.at ≡ h.unit * m.catalog.shape.au + inner)

-- the users' bytes among n from an inner byte of a home on
abbrev pub HomeBytes : MountedGroup → Home → ℕ → ℕ → ℕ → ℕ → Type 0
HomeBytes m h inner n slot k =
    UserBytes m slot k × (slot_at m.disks h.disk ≡ Some slot) × (h.unit * m.catalog.shape.au + inner ≤ k) × (k < h.unit * m.catalog.shape.au + inner + n)

-- the same of the new copy of a move, where it moves the extent
abbrev pub FlightBytes : MountedGroup → Flight → ExtentId → ℕ → ℕ → ℕ → ℕ → Type 0
FlightBytes m f x inner n slot k = (f.x ≡ x) × HomeBytes m f.to inner n slot k

-- the same of the move that is on its way
abbrev pub MovedBytes : MountedGroup → ExtentId → ℕ → ℕ → ℕ → ℕ → Type 0
MovedBytes m x inner n slot k = (f : Flight) × (m.flight ≡ Some f) × FlightBytes m f x inner n slot k

-- ---- the write

-- Nothing has to be recorded: no disk failed, and no copy is left behind. None of the places lies in the new copy of a move.
pub record IsPlain (m : MountedGroup) (x : ExtentId) (inner n failed : ℕ) : Type 0 where
  pub none : failed ≡ 0
  pub left : left_of m x inner failed ≡ 0
  pub apart : (slot k : ℕ) → MovedBytes m x inner n slot k → PlacesOf (places_at m x inner) n slot k → ⊥

-- The usable copies were written before anything else was done, and the bay was at `written` then.
pub record WritesPiece {B : Type 0} (state : B → BayState) (m : MountedGroup) (x : ExtentId) (inner : ℕ) (bytes : Bytes) (failed : ℕ) (new : MountedGroup)
    (start end : B) : Type 0 where
  pub written : B
  -- up to there nothing changed but the bytes at the places
  pub writes : WritesBytes m (PlacesOf (places_at m x inner) (length bytes)) (state start) (state written)
  -- there each image has the bytes on each usable copy but those on disks that failed, and one such copy is there
  pub done : NowOnly (state written) (HaveBut (places_at m x inner) failed bytes)
  pub some : SomeTook (places_at m x inner) failed
  -- what followed kept the group
  pub keeps : KeepsGroup m new (state written) (state end)
  -- where nothing had to be recorded, it changed bytes of the new copy of a move alone
  pub rest : failed ≡ 0 → left_of m x inner failed ≡ 0 → WritesBytes m (MovedBytes m x inner (length bytes)) (state written) (state end)
