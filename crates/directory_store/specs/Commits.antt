-- What a commit does on the copies.
use Rattle.std.specs.Prelude.{ℕ, ◌+◌, ◌*◌, ◌<◌, ◌≤◌, List, length, map, Result}
use Rattle.bay.specs.Image.{Image, ChangesOnly}
use Rattle.bay.specs.State.{BayState, KeepsAttached}
use Rattle.bay.specs.Moments.{Runs, NowOnly, LeavesOnly}
use Rattle.bay.specs.Calls.{Cost, cost, Call}
use Rattle.asm_group.specs.Names.{Bytes}
use Rattle.asm_base.specs.declared.block.Block.{Block}
use Rattle.asm_base.specs.Blocks.{image_of_page}
use Rattle.asm_formats.specs.Pages.{with_images}
use Rattle.change_directory.specs.declared.copy.DirCopy.{DirCopy}
use Rattle.change_directory.specs.Logs.{AreLogsSettled}
use Rattle.change_directory.specs.StoreLaws.{HasContent, RegionOf}
use Rattle.directory_store.specs.Copies.{AreKept, AreSettledBut, HasOnlyFailedCopies, HasEither, HaveEither, IsKept, IsSettled, IsSlotOfCopy, LogsSettledBut, RegionsOf, WritesFew, calls_for}
use Rattle.directory_store.specs.declared.due.Due.{Due}

-- ---- one copy

-- the copy's due pages went home
pub record HasSettled (copy : DirCopy) (due : List (ℕ × Block)) (s t : BayState) : Type 0 where
  -- it has the content that it had, each page as it stands at home
  pub pages : (number : ℕ) (page : ℕ → Bytes) → NowOnly s (IsKept copy due number page)
      → NowOnly t (IsSettled copy number page)
  -- its log slots are as they are held
  pub logs : AreLogsSettled copy t

-- The copy's due pages are written home.
pub record SettlesCopy {T E : Type 0} (result : Result T E) (copy : DirCopy) (due : List (ℕ × Block))
    (s t : BayState) : Type 0 where
  pub call : Call result copy.slot (ChangesOnly (RegionOf copy)) (λ value. HasSettled copy due)
      (cost (length due + 1) (length due * 4096)) s t
  -- at each moment it has the content that it had
  pub moments : (number : ℕ) (page : ℕ → Bytes) → NowOnly s (IsKept copy due number page)
      → LeavesOnly s t (HasContent copy number page)

-- the copy took pages under a number, of which `was` held before
pub record HasTaken (copy : DirCopy) (was : ℕ → (ℕ → Bytes) → Image → Type 0) (number : ℕ)
    (pages : List (ℕ × Block)) (s t : BayState) : Type 0 where
  -- it has them too, each page as it stands at home
  pub done : (before : ℕ) (page : ℕ → Bytes) → before < number → NowOnly s (was before page)
      → NowOnly t (IsSettled copy number (with_images (map image_of_page pages) page))
  -- its log slots are as they are held
  pub logs : AreLogsSettled copy t

-- The copy takes pages under a number.
pub record CopyTakesPages {T E : Type 0} (result : Result T E) (copy : DirCopy)
    (was : ℕ → (ℕ → Bytes) → Image → Type 0) (number : ℕ) (pages : List (ℕ × Block)) (most : Cost)
    (s t : BayState) : Type 0 where
  pub call : Call result copy.slot (ChangesOnly (RegionOf copy))
      (λ value. HasTaken copy was number pages) most s t
  -- at each moment it has the content before, or that after
  pub moments : (before : ℕ) (page : ℕ → Bytes) → before < number → NowOnly s (was before page)
      → LeavesOnly s t
      (HasEither copy before number page (with_images (map image_of_page pages) page))

-- pages are put into the log of a copy without due pages, and then home
abbrev pub LogsAndHomes : {T E : Type 0} → Result T E → DirCopy → ℕ → List (ℕ × Block) → BayState
    → BayState → Type 0
LogsAndHomes result copy number pages = CopyTakesPages result copy (IsSettled copy) number pages
    (cost (length pages + 13) (2 * copy.sector + (2 * length pages + 1) * 4096))

-- pages are committed on a copy with these due pages
abbrev pub CommitsOne : {T E : Type 0} → Result T E → DirCopy → List (ℕ × Block) → ℕ
    → List (ℕ × Block) → BayState → BayState → Type 0
CommitsOne result copy due number pages = CopyTakesPages result copy (IsKept copy due) number pages
    (cost (length due + length pages + 14)
    (2 * copy.sector + (2 * length pages + 1) * 4096 + length due * 4096))

-- ---- several copies

-- Pages are committed on each copy, past faults: the disks of the set failed.
pub record CommitsPages (copies : List DirCopy) (dues : List Due) (number : ℕ) (pages : List (ℕ × Block))
    (failed : ℕ) (s t : BayState) : Type 0 where
  -- the same disks stay attached
  pub attached : KeepsAttached s t
  -- on each copy so many calls were made at most
  pub calls : t.calls ≤ s.calls + calls_for copies dues (length pages)
  -- on each copy so many bytes were written at most
  pub written : WritesFew copies dues (length pages) s t
  -- nothing changes but the copies' regions
  pub runs : Runs (IsSlotOfCopy copies) (ChangesOnly (RegionsOf copies)) s t
  -- at each moment each copy has the content before, or that after
  pub moments : (before : ℕ) (page : ℕ → Bytes) → before < number
      → NowOnly s (AreKept copies dues before page)
      → LeavesOnly s t
      (HaveEither copies before number page (with_images (map image_of_page pages) page))
  -- those that didn't fail have the content after
  pub done : (before : ℕ) (page : ℕ → Bytes) → before < number
      → NowOnly s (AreKept copies dues before page)
      → NowOnly t (AreSettledBut copies failed number (with_images (map image_of_page pages) page))
  -- and their log slots are as they are held
  pub logs : LogsSettledBut copies failed t
  -- a disk failed only where its slot did
  pub failed_alone : HasOnlyFailedCopies copies failed s t
