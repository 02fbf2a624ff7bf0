-- What a directory copy holds at each moment of a commit, a checkpoint and a format.
use Rattle.std.specs.Prelude.{◌≡◌, ℕ, ◌+◌, ◌<◌, ◌≤◌, ◌^◌, false, true, length, map, Some, None, IsTrue}
use Rattle.std.specs.Option.{is_some}
use Rattle.asm_group.specs.Names.{Bytes}
use Rattle.asm_formats.specs.Bytes.{block, is_open}
use Rattle.asm_formats.specs.Regions.{region_start, first_log, second_log, has_region}
use Rattle.asm_formats.specs.Header.{Header}
use Rattle.asm_formats.specs.Logs.{Log, PageImage, head_of_log, log_head_spelling, blocks_from, log_at, log_decodes, logs_decode, open_logs, image_in}
use Rattle.asm_formats.specs.Pages.{committed, home_page, with_images, IsCheckpointed}
use Rattle.asm_formats.specs.Metadata.{metadata, header_of}
use Rattle.asm_formats.specs.Places.{SameButBlocks}
use Rattle.asm_formats.specs.Slots.{ArePair}
use Rattle.asm_formats.specs.LogSlots.{IsLog, MayCloseLog, IsLogPut, IsLogClose, IsCheckpoint}

-- ---- a commit

-- the disk says what it said, or its copy has the content with the log, and nothing else is changed
pub data Commits (dir_blocks : ℕ) (old new : Bytes) (log : Log) : Type 0 where
  not_committed : metadata new ≡ metadata old → Commits dir_blocks old new log
  is_committed : metadata new ≡ record (metadata old) { content = Some (committed dir_blocks old log); decodes = is_some (committed dir_blocks old log).items }
      → Commits dir_blocks old new log

-- At each moment while a log is put, the copy keeps its content or has the new one.
abbrev pub LogPutCommits : Type 0
LogPutCommits =
    (h : Header) (old new : Bytes) (k other : ℕ) (log : Log) → header_of old ≡ Some h → IsLogPut h.shape.dir_blocks old new k other log
    → Commits h.shape.dir_blocks old new log

-- the slot behind gate k is open and holds the log
pub record HoldsLog (bytes : Bytes) (k : ℕ) (log : Log) : Type 0 where
  pub gate : is_open bytes k ≡ true
  pub head : block bytes (k + 1) ≡ log_head_spelling (head_of_log log)
  pub images : blocks_from bytes (k + 2) (length log.images) ≡ map (λ (i : PageImage). i.1) log.images

-- Once it is put, the copy has the new content.
abbrev pub LogPutIsCommitted : Type 0
LogPutIsCommitted =
    (h : Header) (old new : Bytes) (k other : ℕ) (log : Log) → header_of old ≡ Some h → IsLogPut h.shape.dir_blocks old new k other log → HoldsLog new k log
    → IsTrue (has_region h.shape.dir_blocks (length old))
    → metadata new ≡ record (metadata old) { content = Some (committed h.shape.dir_blocks old log); decodes = is_some (committed h.shape.dir_blocks old log).items }

-- A log is read as it was put.
abbrev pub LogIsReadBack : Type 0
LogIsReadBack =
    (dir_blocks : ℕ) (bytes : Bytes) (k : ℕ) (log : Log) → dir_blocks ≤ 2 ^ 32 → IsLog dir_blocks log → HoldsLog bytes k log
    → (log_at dir_blocks bytes k ≡ log) × IsTrue (log_decodes dir_blocks bytes k)

-- Where a copy is whole and decodes, so do its open log slots.
abbrev pub OpenLogsDecode : Type 0
OpenLogsDecode =
    (h : Header) (bytes : Bytes) → header_of bytes ≡ Some h → IsTrue (has_region h.shape.dir_blocks (length bytes)) → (metadata bytes).decodes ≡ true
    → IsTrue (logs_decode h.shape.dir_blocks bytes)

-- Where both log slots are closed, either may be put.
abbrev pub ClosedMayClose : Type 0
ClosedMayClose =
    (dir_blocks : ℕ) (bytes : Bytes) (k other : ℕ) → ArePair (first_log dir_blocks) (second_log dir_blocks) k other → is_open bytes k ≡ false → is_open bytes other ≡ false
    → MayCloseLog dir_blocks bytes k other

-- ---- a checkpoint

-- At each moment of a checkpoint the copy keeps its content, however the pages are torn.
abbrev pub CheckpointKeepsMetadata : Type 0
CheckpointKeepsMetadata = (h : Header) (old new : Bytes) → header_of old ≡ Some h → IsCheckpoint h.shape.dir_blocks old new → metadata new ≡ metadata old

-- Once each page has its image at home, the checkpoint is done.
abbrev pub CheckpointIsDone : Type 0
CheckpointIsDone =
    (dir_blocks : ℕ) (old new : Bytes) → IsCheckpoint dir_blocks old new
    → ((page : ℕ) (image : Bytes) → page < dir_blocks → image_in (open_logs dir_blocks old) page ≡ Some image → home_page new page ≡ image)
    → IsCheckpointed dir_blocks new

-- A commit and its checkpoint: where the checkpoint of the earlier logs was done, each page of the new log has its image at
-- home and the other pages are as they were, the checkpoint is done again.
abbrev pub CommitIsCheckpointed : Type 0
CommitIsCheckpointed =
    (dir_blocks : ℕ) (old new later : Bytes) (k other : ℕ) (log : Log) → dir_blocks ≤ 2 ^ 32 → IsCheckpointed dir_blocks old
    → IsLogPut dir_blocks old new k other log → HoldsLog new k log → SameButBlocks new later region_start dir_blocks
    → ((page : ℕ) → page < dir_blocks → home_page later page ≡ with_images log.images (home_page old) page)
    → IsCheckpointed dir_blocks later

-- ---- a format

-- The slot that doesn't hold the content may be closed.
abbrev pub CloseKeepsMetadata : Type 0
CloseKeepsMetadata =
    (h : Header) (old new : Bytes) (k other : ℕ) → header_of old ≡ Some h → MayCloseLog h.shape.dir_blocks old k other → IsLogClose old new k → metadata new ≡ metadata old

-- With the last open slot the content goes, and not before.
abbrev pub LastCloseLosesContent : Type 0
LastCloseLosesContent =
    (h : Header) (old new : Bytes) (k other : ℕ) → header_of old ≡ Some h → ArePair (first_log h.shape.dir_blocks) (second_log h.shape.dir_blocks) k other
    → is_open old other ≡ false → IsLogClose old new k
    → ((is_open new k ≡ true) → metadata new ≡ metadata old)
    × ((is_open new k ≡ false) → metadata new ≡ record (metadata old) { content = None; decodes = true })

-- Without an open log slot a copy has no content.
abbrev pub ClosedCopyHasNone : Type 0
ClosedCopyHasNone =
    (h : Header) (bytes : Bytes) → header_of bytes ≡ Some h → is_open bytes (first_log h.shape.dir_blocks) ≡ false → is_open bytes (second_log h.shape.dir_blocks) ≡ false
    → ((metadata bytes).content ≡ None) × ((metadata bytes).decodes ≡ true)
