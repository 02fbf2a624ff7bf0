-- What the log slots of a copy show, and which of them a commit writes.
use Rattle.std.specs.Prelude.{◌≡◌, ℕ, ◌+◌, ◌*◌, Bool, ◌&&◌, List, ◌++◌, map, flat_map, if◌then◌else◌, ◌==◌, nat_lt, Option, Some, None}
use Rattle.std.specs.List.{list_all}
use Rattle.bay.specs.Image.{Image, window}
use Rattle.bay.specs.State.{BayState}
use Rattle.asm_group.specs.Names.{Bytes}
use Rattle.std.specs.Int.{w32}
use Rattle.asm_formats.specs.Bytes.{block_size, number_bytes}
use Rattle.asm_formats.specs.Status.{ascends_from}
use Rattle.asm_formats.specs.Logs.{Log, PageImage, head_of_log, log_head_spelling, log_head_at}
use Rattle.asm_base.specs.declared.block.Block.{Block}
use Rattle.change_directory.specs.declared.copy.DirCopy.{DirCopy}
use Rattle.change_directory.specs.declared.copy.LogSlot.{LogSlot}
use Rattle.change_directory.specs.declared.copy.LogSlot.TheVariants.{First, Second}
use Rattle.change_directory.specs.Places.{gate_of}
use Rattle.asm_base.specs.Blocks.{image_of_page}

-- ---- which log slot is written

-- the gate is open
abbrev pub is_open_at : DirCopy → LogSlot → Image → Bool
is_open_at copy log image = image.byte copy.slot (gate_of copy log * block_size) == 165

-- the commit number in the head
abbrev pub commit_number_at : DirCopy → LogSlot → Image → ℕ
commit_number_at copy log image = (log_head_at (window (image.byte copy.slot) ((gate_of copy log + 1) * block_size) block_size)).commit

-- the commit number of an open log slot
abbrev pub open_number : DirCopy → LogSlot → Image → Option ℕ
open_number copy log image = if is_open_at copy log image then Some (commit_number_at copy log image) else None

-- The log slot that doesn't hold the content, by the numbers of those that are open: the closed one, or that of the smaller number. The first where both are closed, the second where the numbers are equal.
abbrev pub spare_of : Option ℕ → Option ℕ → LogSlot
spare_of None second = First
spare_of (Some a) None = Second
spare_of (Some a) (Some b) = if nat_lt a b then First else Second

abbrev pub spare_in : DirCopy → Image → LogSlot
spare_in copy image = spare_of (open_number copy First image) (open_number copy Second image)

-- ---- in each image that a stop may leave

-- both log slots are open where they were, and have the commit numbers that they had
pub record SameLogSlots (copy : DirCopy) (old new : Image) : Type 0 where
  pub gates : (log : LogSlot) → is_open_at copy log new ≡ is_open_at copy log old
  pub numbers : (log : LogSlot) → commit_number_at copy log new ≡ commit_number_at copy log old

-- each image that a stop now may leave has both log slots as they are held
pub record AreLogsSettled (copy : DirCopy) (state : BayState) : Type 0 where
  pub as_held : (image held : Image) → state.leaves state.calls image → state.holds ≡ Some held → SameLogSlots copy held image

-- ---- what is written

abbrev pub bytes_of_page : ℕ × Block → Bytes
bytes_of_page p = p.1.bytes

-- the field of a page's number in a head
abbrev pub number_field : ℕ × Block → Bytes
number_field p = number_bytes w32 p.0

-- the log of these pages
abbrev pub log_of : ℕ → List (ℕ × Block) → Log
log_of number pages = record { commit = number; images = map image_of_page pages }

-- the head and the images, one behind the other
abbrev pub log_body : Log → Bytes
log_body log = log_head_spelling (head_of_log log) ++ flat_map (λ (i : PageImage). i.1) log.images

-- pages of a copy, ascending
abbrev pub are_pages : ℕ → List (ℕ × Block) → Bool
are_pages dir_blocks pages = ascends_from 0 (map (λ (p : ℕ × Block). p.0) pages) && list_all (λ (p : ℕ × Block). nat_lt p.0 dir_blocks) pages
