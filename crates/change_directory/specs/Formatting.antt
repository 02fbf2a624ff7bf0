-- What a format does to an image.
use Rattle.std.specs.Prelude.{◌≡◌, ◌⊎◌, ℕ, ◌+◌, ◌*◌, ◌<◌, ◌≤◌, false, None}
use Rattle.bay.specs.Image.{Image, Range, ChangesOnly}
use Rattle.body_slot.specs.Slot.{GateOf, MayClose, shown_body}
use Rattle.asm_formats.specs.Bytes.{block_size}
use Rattle.asm_formats.specs.Regions.{region_start, region_end}
use Rattle.change_directory.specs.declared.copy.DirCopy.{DirCopy}
use Rattle.change_directory.specs.declared.copy.LogSlot.{LogSlot}
use Rattle.change_directory.specs.Places.{HomesAt, gate_of, other_of, log_place}
use Rattle.change_directory.specs.Logs.{is_open_at, spare_in}
use Rattle.change_directory.specs.Changes.{content_in, IsAtHome, DecodesIn}

-- the bytes of both log gates
abbrev pub LogGatesOf : DirCopy → ℕ → ℕ → Type 0
LogGatesOf copy s k = (log : LogSlot) × Range copy.slot (gate_of copy log * block_size) copy.sector s k

-- the bytes of both log gates and of all pages
abbrev pub FormatOf : DirCopy → ℕ → ℕ → Type 0
FormatOf copy s k = LogGatesOf copy s k ⊎ HomesAt copy s k

-- no log slot is open
abbrev pub AreShut : DirCopy → Image → Type 0
AreShut copy image = (log : LogSlot) → is_open_at copy log image ≡ false

-- While both log slots are closed: the spare one is shut before the other one's gate is written.
pub data MayShut (copy : DirCopy) (old new : Image) : Type 0 where
  spare_closing : MayClose (log_place copy (spare_in copy old) 65) copy.slot old new → MayShut copy old new
  other_closing : is_open_at copy (spare_in copy old) new ≡ false
      → (shown_body (log_place copy (other_of (spare_in copy old)) 65) copy.slot new ≡ shown_body (log_place copy (other_of (spare_in copy old)) 65) copy.slot old)
      ⊎ (shown_body (log_place copy (other_of (spare_in copy old)) 65) copy.slot new ≡ None)
      → ChangesOnly (LogGatesOf copy) old new → MayShut copy old new

-- the spare log slot is closed, and nothing else is changed
pub record HasShutSpare (copy : DirCopy) (log : LogSlot) (old new : Image) : Type 0 where
  pub is : log ≡ spare_in copy old
  pub shut : is_open_at copy log new ≡ false
  pub elsewhere : ChangesOnly (GateOf (log_place copy log 65) copy.slot) old new

-- both log slots are closed, and nothing else is changed
pub record HasShut (copy : DirCopy) (old new : Image) : Type 0 where
  pub shut : AreShut copy new
  pub elsewhere : ChangesOnly (LogGatesOf copy) old new

-- both log slots are closed, and the pages are written
pub record IsErasing (copy : DirCopy) (old new : Image) : Type 0 where
  pub shut : AreShut copy new
  pub elsewhere : ChangesOnly (FormatOf copy) old new

-- while a copy is formatted, no page is written before both log slots are closed
abbrev pub MayFormat : DirCopy → Image → Image → Type 0
MayFormat copy old new = MayShut copy old new ⊎ IsErasing copy old new

-- the first n bytes of the pages are zeros, and nothing but pages is changed
pub record Zeroes (copy : DirCopy) (n : ℕ) (old new : Image) : Type 0 where
  pub zeros : (k : ℕ) → region_start * block_size ≤ k → k < region_start * block_size + n → new.byte copy.slot k ≡ 0
  pub elsewhere : ChangesOnly (HomesAt copy) old new

-- both log slots are closed, and all pages are zeros
pub record HasFormatted (copy : DirCopy) (old new : Image) : Type 0 where
  pub shut : AreShut copy new
  pub zeros : (k : ℕ) → region_start * block_size ≤ k → k < (region_start + copy.dir_blocks) * block_size → new.byte copy.slot k ≡ 0
  pub elsewhere : ChangesOnly (FormatOf copy) old new

-- the content stays, or is gone
abbrev pub MayLoseContent : DirCopy → Image → Image → Type 0
MayLoseContent copy old new = (content_in copy new ≡ content_in copy old) ⊎ (content_in copy new ≡ None)

-- the copy's blocks lie inside the image, its open log slots decode, and their checkpoint is done
pub record IsWholeCopy (copy : DirCopy) (x : Image) : Type 0 where
  pub sized : region_end copy.dir_blocks * block_size ≤ x.size copy.slot
  pub home : IsAtHome copy x
  pub decodes : DecodesIn copy x

-- the content of a whole copy stays, or is gone
abbrev pub Loses : DirCopy → Image → Image → Type 0
Loses copy old new = IsWholeCopy copy old → MayLoseContent copy old new

-- a step of the closing of both log slots, by which the content of a whole copy stays or is gone
pub record ShutsSafely (copy : DirCopy) (old new : Image) : Type 0 where
  pub shuts : MayShut copy old new
  pub loses : Loses copy old new

-- and one of a format
pub record FormatsSafely (copy : DirCopy) (old new : Image) : Type 0 where
  pub formats : MayFormat copy old new
  pub loses : Loses copy old new
