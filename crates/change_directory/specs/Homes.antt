-- What a checkpoint does to an image.
use Rattle.std.specs.Prelude.{◌≡◌, ◌⊎◌, ℕ, ◌+◌, ◌*◌, Bool, true, false, ◌&&◌, ◌==◌, List, [], ◌∷◌, Some}
use Rattle.bay.specs.Image.{Image, ChangesOnly, window}
use Rattle.asm_base.specs.declared.block.Block.{Block}
use Rattle.asm_formats.specs.Bytes.{block_size}
use Rattle.asm_formats.specs.Among.{IsAmong}
use Rattle.asm_formats.specs.Regions.{region_start}
use Rattle.asm_formats.specs.Logs.{open_logs, image_in}
use Rattle.change_directory.specs.declared.copy.DirCopy.{DirCopy}
use Rattle.change_directory.specs.declared.copy.LogSlot.{LogSlot}
use Rattle.change_directory.specs.Places.{HomeOf}
use Rattle.change_directory.specs.Logs.{is_open_at}
use Rattle.change_directory.specs.Changes.{copy_disk_bytes, content_in}

-- the bytes of these pages at home
abbrev pub HomesOf : DirCopy → List (ℕ × Block) → ℕ → ℕ → Type 0
HomesOf copy pages s k = (p : ℕ × Block) × IsAmong pages p × HomeOf copy p.0 s k

-- each of these pages stands at home
abbrev pub AreHome : DirCopy → List (ℕ × Block) → Image → Type 0
AreHome copy pages image = (p : ℕ × Block) → IsAmong pages p → window (image.byte copy.slot) ((region_start + p.0) * block_size) block_size ≡ p.1.bytes

-- these pages were written home, and nothing else is changed
pub record HasHomed (copy : DirCopy) (pages : List (ℕ × Block)) (old new : Image) : Type 0 where
  pub homes : AreHome copy pages new
  pub elsewhere : ChangesOnly (HomesOf copy pages) old new

-- no log slot is open, or each of these pages is the image that counts
abbrev pub AreDue : DirCopy → List (ℕ × Block) → Image → Type 0
AreDue copy pages image =
    ((log : LogSlot) → is_open_at copy log image ≡ false)
    ⊎ ((p : ℕ × Block) → IsAmong pages p → image_in (open_logs copy.dir_blocks (copy_disk_bytes copy image)) p.0 ≡ Some p.1.bytes)

-- the content stays
abbrev pub KeepsContent : DirCopy → Image → Image → Type 0
KeepsContent copy old new = content_in copy new ≡ content_in copy old

-- ---- pages whose numbers follow one another

-- the numbers are n, n + 1 and so on
abbrev pub is_row : ℕ → List (ℕ × Block) → Bool
is_row n [] = true
is_row n (p ∷ pages) = (p.0 == n) && is_row (n + 1) pages

abbrev pub first_number : List (ℕ × Block) → ℕ
first_number [] = 0
first_number (p ∷ pages) = p.0
