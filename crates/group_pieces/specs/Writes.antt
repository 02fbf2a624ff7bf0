-- What a write of a piece to its usable copies does.
use Rattle.std.specs.Prelude.{◌≡◌, ℕ, ◌<◌, Bool, true, false, ◌&&◌, List, [], ◌∷◌, Option, Some, None}
use Rattle.bay.specs.State.{BayState}
use Rattle.asm_base.specs.declared.kinds.ExtentId.{ExtentId}
use Rattle.asm_formats.specs.Sets.{has_bit}
use Rattle.asm_formats.specs.Among.{IsAmong}
use Rattle.record_laws.specs.group_engine.Mounts.{MountedGroup}
use Rattle.group_pieces.specs.declared.copies.Place.{Place}
use Rattle.group_pieces.specs.declared.writing.WriteError.{WriteError}
use Rattle.group_pieces.specs.declared.writing.WriteError.TheVariants as writes
use Rattle.group_pieces.specs.Faults.{IsFault}
use Rattle.group_pieces.specs.Usable.{AreNone, places_at}

-- the disks of the places have numbers
abbrev pub ArePlacesNumbered : List (Option Place) → Type 0
ArePlacesNumbered places = (p : Place) → IsAmong places (Some p) → p.disk < 64

-- the disk of each place that is there is in the set
abbrev pub have_failed : ℕ → List (Option Place) → Bool
have_failed failed [] = true
have_failed failed (None ∷ places) = have_failed failed places
have_failed failed (Some p ∷ places) = has_bit failed p.disk && have_failed failed places

-- one of the places is there whose disk isn't in the set
abbrev pub SomeTook : List (Option Place) → ℕ → Type 0
SomeTook places failed = (p : Place) × IsAmong places (Some p) × (has_bit failed p.disk ≡ false)

-- why no copy took the bytes: none is usable, or the slots of all usable ones failed
abbrev pub IsWriteCause : MountedGroup → ExtentId → ℕ → BayState → BayState → WriteError → Type 0
IsWriteCause m x inner s t writes.Lost = AreNone (places_at m x inner)
IsWriteCause m x inner s t (writes.Fault disk) = IsFault m x inner s t disk
