-- What the calls on a directory copy did, each as one value.
use Rattle.std.specs.Prelude.{◌≡◌, ℕ, ◌+◌, ◌-◌, ◌*◌, ◌/◌, ◌<◌, ◌^◌, List, length, Some, None, Result, IfOk, IfErr, IfSome, OnOk, IsErrOf, IsTrue}
use Rattle.std.specs.List.{list_all}
use Rattle.bay.specs.Image.{ChangesOnly}
use Rattle.bay.specs.State.{BayState, IsSlot}
use Rattle.bay.specs.Counts.{Rose}
use Rattle.bay.specs.Moments.{Runs, Ends, NowOnly}
use Rattle.bay.specs.Calls.{Call, ChangesEachImage, cost}
use Rattle.bay.specs.Told.{Told}
use Rattle.asm_base.specs.declared.block.Block.{Block}
use Rattle.asm_formats.specs.Content.{is_page}
use Rattle.asm_formats.specs.Damage.{directory_damage}
use Rattle.change_directory.specs.Changes.{DecodesIn, HasCommitted, HasLogged, IsAtHome, MayCommit, MayLog, copy_disk_bytes}
use Rattle.change_directory.specs.Formatting.{HasFormatted, MayFormat, MayLoseContent}
use Rattle.change_directory.specs.Homes.{HasHomed, HomesOf, KeepsContent}
use Rattle.change_directory.specs.Loads.{AreInOrder, IsLoaded, damaged_block}
use Rattle.change_directory.specs.Logs.{bytes_of_page, log_of}
use Rattle.change_directory.specs.Works.{DoneSynced, OnlyReads}
use Rattle.change_directory.specs.declared.copy.DirCopy.{DirCopy}
use Rattle.change_directory.specs.declared.loading.LoadFault.{LoadFault}
use Rattle.change_directory.specs.declared.loading.LoadFault.TheVariants.{Fault}
use Rattle.change_directory.specs.declared.loading.Pages.{Pages}

-- ---- writes

-- Changed pages were put into the spare log slot of a copy, under a commit number.
pub record LogsCommit {T E : Type 0} (result : Result T E) (copy : DirCopy) (number : ℕ)
    (pages : List (ℕ × Block)) (s t : BayState) : Type 0 where
  -- that slot shows what it did, nothing, or the log; at Ok it shows the log
  pub call : Call result copy.slot (MayLog copy number pages)
      (ChangesEachImage (HasLogged copy number pages))
      (cost 11 (2 * copy.sector + (length pages + 1) * 4096)) s t
  -- where the pages and the open log slots decode, the content stays, or is that with the pages
  pub content : number < 2 ^ 64 - 1
      → IsTrue (list_all (λ p. is_page (bytes_of_page p)) pages) → NowOnly s (DecodesIn copy)
      → Runs (IsSlot copy.slot) (MayCommit copy (log_of number pages)) s t
  -- and at Ok it is that with the pages
  pub committed : number < 2 ^ 64 - 1
      → IsTrue (list_all (λ p. is_page (bytes_of_page p)) pages) → NowOnly s (DecodesIn copy)
      → OnOk result (Ends (HasCommitted copy (log_of number pages)) s t)

-- The content of a copy was taken away.
pub record FormatsCopy {T E : Type 0} (result : Result T E) (copy : DirCopy) (s t : BayState)
    : Type 0 where
  -- no page is written before both log slots are closed; at Ok they are, all pages are zeros, and
  -- the disk is synced
  pub call : Call result copy.slot (MayFormat copy) (DoneSynced copy.slot (HasFormatted copy))
      (cost ((copy.dir_blocks * 4096) / 262144 + 14)
      (2 * copy.sector + copy.dir_blocks * 4096)) s t
  -- where the log slots decode and the copy is at home, its content stays, or is gone
  pub content : NowOnly s (DecodesIn copy) → NowOnly s (IsAtHome copy)
      → Runs (IsSlot copy.slot) (MayLoseContent copy) s t

-- Pages of a copy were written home.
pub record BringsHome {T E : Type 0} (result : Result T E) (copy : DirCopy)
    (pages : List (ℕ × Block)) (s t : BayState) : Type 0 where
  -- nothing but their homes is changed; at Ok they stand there, and the disk is synced
  pub call : Call result copy.slot (ChangesOnly (HomesOf copy pages))
      (DoneSynced copy.slot (HasHomed copy pages))
      (cost (length pages + 1) (length pages * 4096)) s t
  -- the content stays
  pub content : Runs (IsSlot copy.slot) (KeepsContent copy) s t

-- ---- reads

-- A copy was read whole.
pub record LoadsCopy (result : Result Pages LoadFault) (copy : DirCopy) (s t : BayState)
    : Type 0 where
  -- at Ok these are its commit number and its pages, with the images of the open log slots in
  -- their place
  pub loaded : IfOk result (λ pages. Told s t (IsLoaded copy pages))
  -- they are in order, whatever the disk holds
  pub order : IfOk result (AreInOrder copy.dir_blocks)
  -- at Ok no block is damaged
  pub whole : OnOk result
      (Told s t (λ image. directory_damage copy.dir_blocks (copy_disk_bytes copy image) ≡ None))
  -- the block that a refusal names is the first that is damaged
  pub damage : IfErr result (λ e. IfSome (damaged_block e) (λ block. Told s t
      (λ image. directory_damage copy.dir_blocks (copy_disk_bytes copy image) ≡ Some block)))
  -- nothing is written
  pub reads : OnlyReads copy.slot (copy.dir_blocks / 64 + 7) s t
  -- a fault comes only where the slot failed
  pub cause : IsErrOf result Fault → Rose (s.faults copy.slot) (t.faults copy.slot)
