-- A copy that is brought up beside those of a store.
use Rattle.std.specs.Prelude.{◌≡◌, ◌⊎◌, ◌==◌, ℕ, not, filter, List, None}
use Rattle.bay.specs.Image.{Image, ChangesOnly}
use Rattle.asm_group.specs.Names.{Bytes}
use Rattle.asm_base.specs.declared.block.Block.{Block}
use Rattle.asm_formats.specs.Damage.{directory_damage}
use Rattle.change_directory.specs.declared.copy.DirCopy.{DirCopy}
use Rattle.change_directory.specs.Changes.{copy_disk_bytes, content_in, DecodesIn, IsAtHome}
use Rattle.change_directory.specs.Homes.{AreDue, HasHomed}
use Rattle.change_directory.specs.StoreLaws.{RegionOf}
use Rattle.page_map.specs.Tables.{PageTable}
use Rattle.directory_store.specs.Contents.{HasCopyRecords}
use Rattle.directory_store.specs.Copies.{MayBecome}
use Rattle.directory_store.specs.declared.due.Due.{Due}

-- the open log slots decode, and the copy isn't damaged, or each page counts as it stands at home
pub record IsReadable (copy : DirCopy) (x : Image) : Type 0 where
  pub decodes : DecodesIn copy x
  pub whole : (directory_damage copy.dir_blocks (copy_disk_bytes copy x) ≡ None) ⊎ IsAtHome copy x

-- These pages are due. Once they are written home, each page of a readable copy counts as it stands at home.
pub record IsRenewable (copy : DirCopy) (due : List (ℕ × Block)) (x : Image) : Type 0 where
  pub due_are : AreDue copy due x
  pub homed : IsReadable copy x → (y : Image) → HasHomed copy due x y → DecodesIn copy y × IsAtHome copy y

-- the content stays, is gone, or is that of these records
abbrev pub MayTakeRecords : PageTable → ℕ → DirCopy → Image → Image → Type 0
MayTakeRecords table number copy old new = (content_in copy new ≡ content_in copy old) ⊎ ((content_in copy new ≡ None) ⊎ HasCopyRecords table number copy new)

-- While a copy is brought up nothing outside its directory region changes, and of a readable one the content stays, is gone, or is that of these records.
pub record MayBringUp (table : PageTable) (number : ℕ) (copy : DirCopy) (old new : Image) : Type 0 where
  pub elsewhere : ChangesOnly (RegionOf copy) old new
  pub content : IsReadable copy old → MayTakeRecords table number copy old new

-- the same, of the content of these pages
pub record MayRenewCopy (copy : DirCopy) (number : ℕ) (page : ℕ → Bytes) (old new : Image) : Type 0 where
  pub elsewhere : ChangesOnly (RegionOf copy) old new
  pub content : IsReadable copy old → MayBecome copy number page old new

-- the due pages of copies on other slots
abbrev pub due_off : ℕ → List Due → List Due
due_off slot dues = filter (λ (due : Due). not (due.slot == slot)) dues
