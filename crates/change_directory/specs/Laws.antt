-- What a commit leaves for its checkpoint, and both for the next commit.
use Rattle.std.specs.Prelude.{◌⊎◌, ℕ, ◌*◌, ◌≤◌, List, IsTrue}
use Rattle.std.specs.List.{list_all}
use Rattle.bay.specs.Image.{Image, Same}
use Rattle.asm_base.specs.declared.block.Block.{Block}
use Rattle.asm_formats.specs.Bytes.{block_size}
use Rattle.asm_formats.specs.Content.{is_page}
use Rattle.asm_formats.specs.Regions.{region_end}
use Rattle.asm_formats.specs.Logs.{head_of_log, is_log_head}
use Rattle.asm_formats.specs.LogSlots.{IsLogPut}
use Rattle.asm_formats.specs.Commits.{HoldsLog}
use Rattle.change_directory.specs.declared.copy.DirCopy.{DirCopy}
use Rattle.change_directory.specs.Places.{gate_of, other_of}
use Rattle.change_directory.specs.Logs.{log_of, bytes_of_page, spare_in}
use Rattle.change_directory.specs.Changes.{copy_disk_bytes, IsAtHome, DecodesIn, IsAbove, MayLog, HasLogged}
use Rattle.change_directory.specs.Homes.{AreDue, HasHomed}

-- before a commit: the copy's blocks lie inside the image, the checkpoint is done, the open log slots decode, and the number is a new one
pub record IsCopyReady (copy : DirCopy) (number : ℕ) (x : Image) : Type 0 where
  pub sized : region_end copy.dir_blocks * block_size ≤ x.size copy.slot
  pub home : IsAtHome copy x
  pub decodes : DecodesIn copy x
  pub above : IsAbove copy number x

-- before a checkpoint: the copy's blocks lie inside the image, and the pages are due
pub record IsDueHere (copy : DirCopy) (pages : List (ℕ × Block)) (x : Image) : Type 0 where
  pub sized : region_end copy.dir_blocks * block_size ≤ x.size copy.slot
  pub due : AreDue copy pages x

-- pages that may be put under a number
pub record ArePut (copy : DirCopy) (number : ℕ) (pages : List (ℕ × Block)) : Type 0 where
  pub sector : copy.sector ≤ 4096
  pub least : 128 ≤ copy.dir_blocks
  pub most : copy.dir_blocks ≤ 16384
  pub head : IsTrue (is_log_head copy.dir_blocks (head_of_log (log_of number pages)))
  pub decode : IsTrue (list_all (λ (p : ℕ × Block). is_page (bytes_of_page p)) pages)

-- The pages of a commit are due at its checkpoint.
abbrev pub LoggedAreDue : Type 0
LoggedAreDue =
    (copy : DirCopy) (number : ℕ) (pages : List (ℕ × Block)) → ArePut copy number pages
    → (x y : Image) → IsCopyReady copy number x → HasLogged copy number pages x y → AreDue copy pages y

-- After a commit and its checkpoint each page counts as it stands at home.
abbrev pub HomedAreAtHome : Type 0
HomedAreAtHome =
    (copy : DirCopy) (number : ℕ) (pages : List (ℕ × Block)) → ArePut copy number pages
    → (x y z : Image) → IsCopyReady copy number x → HasLogged copy number pages x y → HasHomed copy pages y z → IsAtHome copy z

-- ---- in the words of the format

-- While a log is put, the disk is as it was, or it is a moment of putting the log into the spare slot.
abbrev pub LoggingIsPut : Type 0
LoggingIsPut =
    (copy : DirCopy) (number : ℕ) (pages : List (ℕ × Block)) → ArePut copy number pages
    → (x y : Image) → IsCopyReady copy number x → MayLog copy number pages x y
    → Same x y ⊎ IsLogPut copy.dir_blocks (copy_disk_bytes copy x) (copy_disk_bytes copy y) (gate_of copy (spare_in copy x)) (gate_of copy (other_of (spare_in copy x))) (log_of number pages)

-- Once it is put, the slot holds it.
abbrev pub LoggedIsPut : Type 0
LoggedIsPut =
    (copy : DirCopy) (number : ℕ) (pages : List (ℕ × Block)) → ArePut copy number pages
    → (x y : Image) → IsCopyReady copy number x → HasLogged copy number pages x y
    → IsLogPut copy.dir_blocks (copy_disk_bytes copy x) (copy_disk_bytes copy y) (gate_of copy (spare_in copy x)) (gate_of copy (other_of (spare_in copy x))) (log_of number pages)
    × HoldsLog (copy_disk_bytes copy y) (gate_of copy (spare_in copy x)) (log_of number pages)
