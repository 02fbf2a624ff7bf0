-- What a copy holds when it is loaded: its commit number, the pages that aren't zeros, and the pages of its open log slots.
use Rattle.std.specs.Prelude.{◌≡◌, ℕ, ◌+◌, Bool, ◌==◌, nat_lt, if◌then◌else◌, List, [], ◌∷◌, ◌++◌, ◌&&◌, not, map, flat_map, Option, Some, None, IsTrue}
use Rattle.std.specs.Option.{option_map, option_or, option_to_list}
use Rattle.std.specs.List.{list_all, position_from, range_with_len}
use Rattle.bay.specs.Image.{Image}
use Rattle.asm_group.specs.Names.{Bytes}
use Rattle.asm_formats.specs.Bytes.{is_open}
use Rattle.asm_formats.specs.Regions.{first_log, second_log}
use Rattle.asm_formats.specs.Status.{ascends_from}
use Rattle.asm_formats.specs.Content.{is_page, is_empty_page}
use Rattle.asm_formats.specs.Logs.{Log, PageImage, log_at}
use Rattle.asm_formats.specs.Pages.{page_at}
use Rattle.change_directory.specs.declared.copy.DirCopy.{DirCopy}
use Rattle.change_directory.specs.declared.loading.Pages.{Pages}
use Rattle.change_directory.specs.declared.loading.LoadFault.{LoadFault}
use Rattle.change_directory.specs.declared.loading.LoadFault.TheVariants.{Fault, Damaged, NoMemory}
use Rattle.change_directory.specs.Logs.{are_pages, bytes_of_page}
use Rattle.asm_base.specs.Blocks.{image_of_page}
use Rattle.change_directory.specs.Changes.{copy_disk_bytes}

-- ---- the open log slots, with the blocks where they stand

-- the block of a log slot's gate, and its log
pub record OpenSlot : Type 0 where
  pub gate : ℕ
  pub log : Log

-- what one slot holds, where its gate is open
abbrev pub slot_in : ℕ → Bytes → ℕ → List OpenSlot
slot_in dir_blocks bytes k = if is_open bytes k then record { gate = k; log = log_at dir_blocks bytes k } ∷ [] else []

-- the greater number first, the first slot where they are equal
abbrev pub newest_slots : List OpenSlot → List OpenSlot
newest_slots (first ∷ second ∷ []) = if nat_lt first.log.commit second.log.commit then second ∷ first ∷ [] else first ∷ second ∷ []
newest_slots slots = slots

unfoldable pub open_slots : ℕ → Bytes → List OpenSlot
open_slots dir_blocks bytes = newest_slots (slot_in dir_blocks bytes (first_log dir_blocks) ++ slot_in dir_blocks bytes (second_log dir_blocks))

-- the block of a page's image in a slot: the images stand behind the gate and the head
abbrev pub image_block : OpenSlot → ℕ → Option ℕ
image_block slot page = position_from (λ (i : PageImage). i.0 == page) (slot.gate + 2) slot.log.images

-- the block of the image that counts of a page: that of the first slot that has one
abbrev pub counted_block : List OpenSlot → ℕ → Option ℕ
counted_block [] page = None
counted_block (slot ∷ older) page = option_or (image_block slot page) (counted_block older page)

-- ---- what is loaded

-- the commit number of the content
abbrev pub commit_of : List OpenSlot → ℕ
commit_of [] = 0
commit_of (slot ∷ older) = slot.log.commit

-- the same, where there is one
abbrev pub commit_if_any : List OpenSlot → Option ℕ
commit_if_any [] = None
commit_if_any (slot ∷ older) = Some slot.log.commit

-- a page that counts and isn't zeros
abbrev pub filled_page : ℕ → Bytes → ℕ → List PageImage
filled_page dir_blocks bytes page = if is_empty_page (page_at dir_blocks bytes page) then [] else (page, page_at dir_blocks bytes page) ∷ []

-- all such pages, ascending; without an open log slot there are none
abbrev pub filled_pages : ℕ → Bytes → List OpenSlot → List PageImage
filled_pages dir_blocks bytes [] = []
filled_pages dir_blocks bytes (slot ∷ older) = flat_map (filled_page dir_blocks bytes) (range_with_len 0 dir_blocks)

-- a page with an image in an open log slot, and the block of the image that counts
abbrev pub due_page : List OpenSlot → ℕ → List (ℕ × ℕ)
due_page slots page = option_to_list (option_map (λ b. (page, b)) (counted_block slots page))

-- what was loaded of a copy
pub record IsLoaded (copy : DirCopy) (pages : Pages) (image : Image) : Type 0 where
  pub number : pages.number ≡ commit_if_any (open_slots copy.dir_blocks (copy_disk_bytes copy image))
  pub blocks : map image_of_page pages.blocks.items ≡ filled_pages copy.dir_blocks (copy_disk_bytes copy image) (open_slots copy.dir_blocks (copy_disk_bytes copy image))
  -- ascending
  pub due : pages.due.items ≡ flat_map (due_page (open_slots copy.dir_blocks (copy_disk_bytes copy image))) (range_with_len 0 copy.dir_blocks)

-- numbers of pages, ascending
abbrev pub are_numbers : ℕ → List ℕ → Bool
are_numbers dir_blocks numbers = ascends_from 0 numbers && list_all (λ n. nat_lt n dir_blocks) numbers

-- What each load gives, also where nothing is known of the disk: the numbers of the pages ascend below that of all pages, each block is that of a record, and so ascend the due pages' numbers.
pub record AreInOrder (dir_blocks : ℕ) (pages : Pages) : Type 0 where
  pub ascend : IsTrue (are_pages dir_blocks pages.blocks.items)
  pub decode : IsTrue (list_all (λ p. is_page (bytes_of_page p)) pages.blocks.items)
  pub filled : IsTrue (list_all (λ p. not (is_empty_page (bytes_of_page p))) pages.blocks.items)
  pub due : IsTrue (are_numbers dir_blocks (map (λ d. d.0) pages.due.items))

-- the block that a refusal names
abbrev pub damaged_block : LoadFault → Option ℕ
damaged_block Fault = None
damaged_block (Damaged block) = Some block
damaged_block NoMemory = None
