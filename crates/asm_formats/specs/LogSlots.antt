-- The moments while a log slot is put or closed.
use Rattle.std.specs.Prelude.{◌≡◌, ◌⊎◌, ℕ, ◌+◌, ◌<◌, false, true, map, length, None, IsTrue}
use Rattle.std.specs.List.{list_all}
use Rattle.asm_group.specs.Names.{Bytes}
use Rattle.asm_formats.specs.Bytes.{block, is_open}
use Rattle.asm_formats.specs.Regions.{log_blocks, first_log, second_log, region_start}
use Rattle.asm_formats.specs.Content.{is_page}
use Rattle.asm_formats.specs.Logs.{Log, PageImage, head_of_log, log_head_spelling, is_log_head, blocks_from, log_at, logs_decode, open_logs, image_in}
use Rattle.asm_formats.specs.Pages.{IsCheckpointed, home_page}
use Rattle.asm_formats.specs.Places.{SameButBlocks}
use Rattle.asm_formats.specs.Slots.{ArePair}

-- the log may be written to a copy with so many pages
abbrev pub IsLog : ℕ → Log → Type 0
IsLog dir_blocks log = IsTrue (is_log_head dir_blocks (head_of_log log)) × IsTrue (list_all (λ (i : PageImage). is_page i.1) log.images)

-- The slot behind gate k is as it was, or closed, or open with the head and the images of the log.
pub data LogMoment (old new : Bytes) (k : ℕ) (log : Log) : Type 0 where
  log_as_before : is_open new k ≡ is_open old k → ((j : ℕ) → k < j → j < k + log_blocks → block new j ≡ block old j) → LogMoment old new k log
  log_closed : is_open new k ≡ false → LogMoment old new k log
  log_put : is_open new k ≡ true → block new (k + 1) ≡ log_head_spelling (head_of_log log)
      → blocks_from new (k + 2) (length log.images) ≡ map (λ (i : PageImage). i.1) log.images → LogMoment old new k log

-- The slot doesn't hold the content: it is closed, or the other one is open and of a greater number, or the first of two with one number.
abbrev pub IsFreeLog : ℕ → Bytes → ℕ → ℕ → Type 0
IsFreeLog dir_blocks bytes k other =
    (is_open bytes k ≡ false)
    ⊎ ((is_open bytes other ≡ true)
    × (((log_at dir_blocks bytes k).commit < (log_at dir_blocks bytes other).commit)
    ⊎ (((log_at dir_blocks bytes k).commit ≡ (log_at dir_blocks bytes other).commit) × (other < k))))

-- A log slot may be closed and keeps the content: it doesn't hold it, the open slots decode, and where this one is open the checkpoint is done.
pub record MayCloseLog (dir_blocks : ℕ) (old : Bytes) (k other : ℕ) : Type 0 where
  pub pair : ArePair (first_log dir_blocks) (second_log dir_blocks) k other
  pub free : IsFreeLog dir_blocks old k other
  pub decode : IsTrue (logs_decode dir_blocks old)
  pub checkpointed : is_open old k ≡ true → IsCheckpointed dir_blocks old

-- A log is put into the slot that doesn't hold the content, with a number above that of the other slot.
pub record IsLogPut (dir_blocks : ℕ) (old new : Bytes) (k other : ℕ) (log : Log) : Type 0 where
  pub may_close : MayCloseLog dir_blocks old k other
  pub above : is_open old other ≡ true → (log_at dir_blocks old other).commit < log.commit
  pub is_log : IsLog dir_blocks log
  pub elsewhere : SameButBlocks old new k log_blocks
  pub moment : LogMoment old new k log

-- The gate of a log slot is closed: it may read open or closed, and nothing else changes.
pub record IsLogClose (old new : Bytes) (k : ℕ) : Type 0 where
  pub was_open : is_open old k ≡ true
  pub elsewhere : SameButBlocks old new k 1

-- Pages are written home: each page without an image in an open log slot stays, and so does all but the pages.
pub record IsCheckpoint (dir_blocks : ℕ) (old new : Bytes) : Type 0 where
  pub elsewhere : SameButBlocks old new region_start dir_blocks
  pub pages : (page : ℕ) → page < dir_blocks → image_in (open_logs dir_blocks old) page ≡ None → home_page new page ≡ home_page old page
