-- What a commit does to an image.
use Rattle.std.specs.Prelude.{◌≡◌, ◌⊎◌, ℕ, ◌+◌, ◌<◌, true, List, length, Option, Some, IsTrue}
use Rattle.bay.specs.Image.{Image, Same}
use Rattle.body_slot.specs.Slot.{MayPut, HasPut}
use Rattle.asm_group.specs.Names.{Bytes}
use Rattle.asm_formats.specs.Content.{Content}
use Rattle.asm_formats.specs.Logs.{Log, logs_decode}
use Rattle.asm_formats.specs.Pages.{copy_content, committed, IsCheckpointed}
use Rattle.asm_images.specs.Bridge.{disk_bytes}
use Rattle.asm_base.specs.declared.block.Block.{Block}
use Rattle.change_directory.specs.declared.copy.DirCopy.{DirCopy}
use Rattle.change_directory.specs.declared.copy.LogSlot.{LogSlot}
use Rattle.change_directory.specs.Places.{log_place}
use Rattle.change_directory.specs.Logs.{is_open_at, commit_number_at, spare_in, log_of, log_body}

-- the bytes of the copy's disk
abbrev pub copy_disk_bytes : DirCopy → Image → Bytes
copy_disk_bytes copy image = disk_bytes image copy.slot

-- the content of the copy
abbrev pub content_in : DirCopy → Image → Option Content
content_in copy image = copy_content copy.dir_blocks (copy_disk_bytes copy image)

-- each page counts as it stands at home
abbrev pub IsAtHome : DirCopy → Image → Type 0
IsAtHome copy image = IsCheckpointed copy.dir_blocks (copy_disk_bytes copy image)

-- the open log slots decode
abbrev pub DecodesIn : DirCopy → Image → Type 0
DecodesIn copy image = IsTrue (logs_decode copy.dir_blocks (copy_disk_bytes copy image))

-- a number above that of each open log slot
abbrev pub IsAbove : DirCopy → ℕ → Image → Type 0
IsAbove copy number image = (log : LogSlot) → is_open_at copy log image ≡ true → commit_number_at copy log image < number

-- While a log of these pages is put, the disks are the same, or the spare log slot shows what it did, nothing, or the log.
abbrev pub MayLog : DirCopy → ℕ → List (ℕ × Block) → Image → Image → Type 0
MayLog copy number pages old new = Same old new ⊎ MayPut (log_place copy (spare_in copy old) (length pages + 1)) copy.slot (log_body (log_of number pages)) old new

-- The spare log slot shows the log.
abbrev pub HasLogged : DirCopy → ℕ → List (ℕ × Block) → Image → Image → Type 0
HasLogged copy number pages old new = HasPut (log_place copy (spare_in copy old) (length pages + 1)) copy.slot (log_body (log_of number pages)) old new

-- the content stays, or is that with the log
abbrev pub MayCommit : DirCopy → Log → Image → Image → Type 0
MayCommit copy log old new = (content_in copy new ≡ content_in copy old) ⊎ (content_in copy new ≡ Some (committed copy.dir_blocks (copy_disk_bytes copy old) log))

-- the content is that with the log
abbrev pub HasCommitted : DirCopy → Log → Image → Image → Type 0
HasCommitted copy log old new = content_in copy new ≡ Some (committed copy.dir_blocks (copy_disk_bytes copy old) log)
