-- The places of a piece on three disks of 4,096 bytes.
use Rattle.std.specs.Prelude.{◌≡◌, ◌+◌, ℕ, Option, Some}
use Rattle.bay.specs.State.{BayState}
use Rattle.file_extents.specs.group_pieces.declared.copies.Place.{Place}

-- the disks in the first three slots are attached
pub record AreThree (s : BayState) : Type 0 where
  pub zeroth : s.attached 0 ≡ Some 4096
  pub first : s.attached 1 ≡ Some 4096
  pub second : s.attached 2 ≡ Some 4096

-- the third sector of the disk in a slot, whose number is greater by five
abbrev pub place_on : ℕ → Place
place_on k = record { disk = k + 5; slot = k; at = 1024 }

-- there is no place, or this one
abbrev pub IsPlaceOn : ℕ → Option Place → Type 0
IsPlaceOn k o = (p : Place) → o ≡ Some p → p ≡ place_on k
