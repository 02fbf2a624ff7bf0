-- The log slots and the pages of a copy, as they are read.
use Rattle.std.specs.Prelude.{◌≡◌, ℕ, zero, suc, ◌+◌, ◌*◌, Bool, true, false, ◌&&◌, not, List, [], ◌∷◌, ◌++◌, length, map, zip, take, drop, if◌then◌else◌, ◌==◌, Option, Some, None, IsTrue}
use Rattle.std.specs.List.{list_all}
use Rattle.std.specs.Str.{bytes_eq}
use Rattle.std.specs.Option.{is_some, option_map, unwrap_or}
use Rattle.bay.specs.Image.{Image, window}
use Rattle.asm_group.specs.Names.{Bytes}
use Rattle.asm_formats.specs.Bytes.{block_size}
use Rattle.asm_formats.specs.Regions.{page_home, region_start}
use Rattle.asm_formats.specs.Content.{is_page, is_empty_page}
use Rattle.asm_formats.specs.Logs.{Log, LogHead, PageImage, log_head_at, log_head_spelling, decoded_log_head, images_at, image_in}
use Rattle.asm_formats.specs.Damage.{head_damage, log_damage}
use Rattle.change_directory.specs.declared.copy.DirCopy.{DirCopy}
use Rattle.change_directory.specs.declared.copy.LogSlot.{LogSlot}
use Rattle.change_directory.specs.declared.loading.Pages.{Pages}
use Rattle.change_directory.specs.declared.open_log.OpenLog.{OpenLog}
use Rattle.change_directory.specs.declared.open_log.OpenLogs.{OpenLogs}
use Rattle.change_directory.specs.Places.{gate_of}
use Rattle.change_directory.specs.Logs.{log_of, is_open_at}
use Rattle.asm_base.specs.Blocks.{image_of_page}
use Rattle.change_directory.specs.Changes.{copy_disk_bytes}
use Rattle.change_directory.specs.Loads.{OpenSlot, slot_in, due_page, are_numbers}

-- ---- heads

abbrev pub head_with : ℕ → List ℕ → LogHead
head_with commit pages = record { commit = commit; pages = pages }

-- the head is the one spelling of its number and these pages
abbrev pub is_head_of : ℕ → Bytes → List ℕ → Bool
is_head_of dir_blocks head pages = are_numbers dir_blocks pages && bytes_eq head (log_head_spelling (head_with (log_head_at head).commit pages))

-- ---- blocks, one behind the other

-- n blocks of some bytes
unfoldable pub blocks_of : ℕ → Bytes → List Bytes
blocks_of zero bytes = []
blocks_of (suc n) bytes = take block_size bytes ∷ blocks_of n (drop block_size bytes)

-- n blocks of a disk, from block k on
unfoldable pub blocks_at : (ℕ → ℕ) → ℕ → ℕ → List Bytes
blocks_at byte k zero = []
blocks_at byte k (suc n) = window byte (k * block_size) block_size ∷ blocks_at byte (k + 1) n

-- ---- images

-- the block of the first image that is no page, where they begin with a block
unfoldable pub bad_image : ℕ → List PageImage → Option ℕ
bad_image at [] = None
bad_image at (image ∷ images) = if is_page image.1 then bad_image (at + 1) images else Some at

-- the block of the first image of a page, where they begin with a block
abbrev pub place_in : ℕ → List PageImage → ℕ → Option ℕ
place_in at [] page = None
place_in at (image ∷ images) page = if image.0 == page then Some at else place_in (at + 1) images page

-- ---- a log slot that was read

abbrev pub slot_of : OpenLog → OpenSlot
slot_of log = record { gate = log.gate; log = log_of log.number log.images.items }

abbrev pub slots_of_log : Option OpenLog → List OpenSlot
slots_of_log None = []
slots_of_log (Some log) = slot_of log ∷ []

abbrev pub damage_of : Option OpenLog → Option ℕ
damage_of None = None
damage_of (Some log) = log.damage

-- the head of an open log slot
abbrev pub head_in : DirCopy → LogSlot → Image → Option Bytes
head_in copy log image = if is_open_at copy log image then Some (window (image.byte copy.slot) ((gate_of copy log + 1) * block_size) block_size) else None

-- the images of these pages, behind the gate and the head
abbrev pub images_in : DirCopy → LogSlot → List ℕ → Image → List PageImage
images_in copy log pages image = zip pages (blocks_at (image.byte copy.slot) (gate_of copy log + 2) (length pages))

-- what stands behind a head was read
pub record IsRestRead (copy : DirCopy) (log : LogSlot) (head : Bytes) (read : OpenLog) (image : Image) : Type 0 where
  pub gate : read.gate ≡ gate_of copy log
  pub number : read.number ≡ (log_head_at head).commit
  pub images : map image_of_page read.images.items ≡ images_at (copy_disk_bytes copy image) (gate_of copy log + 2) (decoded_log_head copy.dir_blocks head)
  pub damage : read.damage ≡ head_damage (copy_disk_bytes copy image) (gate_of copy log) (decoded_log_head copy.dir_blocks head)

-- the log slot was read, and its first damaged block
pub record IsLogRead (copy : DirCopy) (log : LogSlot) (read : Option OpenLog) (image : Image) : Type 0 where
  pub slots : slots_of_log read ≡ slot_in copy.dir_blocks (copy_disk_bytes copy image) (gate_of copy log)
  pub damage : damage_of read ≡ log_damage copy.dir_blocks (copy_disk_bytes copy image) (gate_of copy log)

-- each image of these slots is a page
abbrev pub are_sound : List OpenSlot → Bool
are_sound slots = list_all (λ (s : OpenSlot). list_all (λ (i : PageImage). is_page i.1) s.log.images) slots

-- a slot without a damaged block has only such images
abbrev pub IsSoundRead : Option OpenLog → Type 0
IsSoundRead read = damage_of read ≡ None → IsTrue (are_sound (slots_of_log read))

-- both log slots
abbrev pub all_slots : OpenLogs → List OpenSlot
all_slots logs = slots_of_log logs.newest ++ slots_of_log logs.older

-- there is one
abbrev pub has_slots : List OpenSlot → Bool
has_slots [] = false
has_slots (slot ∷ slots) = true

-- ---- pages

abbrev pub logs_of : List OpenSlot → List Log
logs_of slots = map (λ (s : OpenSlot). s.log) slots

-- the page that counts: its image, or its home
abbrev pub counted_page : List OpenSlot → ℕ → Bytes → Bytes
counted_page slots page home = unwrap_or (image_in (logs_of slots) page) home

-- the page that counts, where it isn't zeros
abbrev pub page_unless_empty : ℕ → Bytes → List PageImage
page_unless_empty page bytes = if is_empty_page bytes then [] else (page, bytes) ∷ []

-- it counts as it stands at home, and is no page
abbrev pub is_bad : List OpenSlot → ℕ → Bytes → Bool
is_bad slots page home = not (is_some (image_in (logs_of slots) page)) && not (is_page home)

-- the same of pages, one behind the other, of which the first has a number
unfoldable pub all_filled : List OpenSlot → ℕ → List Bytes → List PageImage
all_filled slots page [] = []
all_filled slots page (home ∷ homes) = page_unless_empty page (counted_page slots page home) ++ all_filled slots (page + 1) homes

unfoldable pub all_due : List OpenSlot → ℕ → List Bytes → List (ℕ × ℕ)
all_due slots page [] = []
all_due slots page (home ∷ homes) = due_page slots page ++ all_due slots (page + 1) homes

unfoldable pub first_bad : List OpenSlot → ℕ → List Bytes → Option ℕ
first_bad slots page [] = None
first_bad slots page (home ∷ homes) = if is_bad slots page home then Some page else first_bad slots (page + 1) homes

-- the block of the first such page
abbrev pub damaged_page : List OpenSlot → ℕ → List Bytes → Option ℕ
damaged_page slots page homes = option_map page_home (first_bad slots page homes)

-- the homes of pages
abbrev pub home_blocks : DirCopy → ℕ → ℕ → Image → List Bytes
home_blocks copy page n image = blocks_at (image.byte copy.slot) (region_start + page) n

-- ---- what was taken up

-- these pages and these blocks were taken up behind the others
pub record TakesUpPages (blocks : List PageImage) (due : List (ℕ × ℕ)) (old new : Pages) : Type 0 where
  pub number : new.number ≡ old.number
  pub blocks_are : map image_of_page new.blocks.items ≡ map image_of_page old.blocks.items ++ blocks
  pub due_are : new.due.items ≡ old.due.items ++ due

-- pages were taken up by these homes, and each that counts is a page
pub record AreTaken (slots : List OpenSlot) (page : ℕ) (homes : List Bytes) (old new : Pages) : Type 0 where
  pub takes : TakesUpPages (all_filled slots page homes) (all_due slots page homes) old new
  pub sound : first_bad slots page homes ≡ None

-- The pages below a number stand in order: their numbers ascend, none is zeros, each is a page where the slots' images are, and so ascend the due pages' numbers.
pub record AreUpTo (slots : List OpenSlot) (n : ℕ) (pages : Pages) : Type 0 where
  pub numbers : IsTrue (are_numbers n (map (λ (i : PageImage). i.0) (map image_of_page pages.blocks.items)))
  pub filled : IsTrue (list_all (λ (i : PageImage). not (is_empty_page i.1)) (map image_of_page pages.blocks.items))
  pub decode : IsTrue (are_sound slots) → IsTrue (list_all (λ (i : PageImage). is_page i.1) (map image_of_page pages.blocks.items))
  pub due : IsTrue (are_numbers n (map (λ (d : ℕ × ℕ). d.0) pages.due.items))

-- pages stay in order, up to a greater number
abbrev pub GoesUpTo : List OpenSlot → ℕ → ℕ → Pages → Pages → Type 0
GoesUpTo slots m n old new = AreUpTo slots m old → AreUpTo slots n new

abbrev pub open_log_number : Option OpenLog → Option ℕ
open_log_number None = None
open_log_number (Some log) = Some log.number

-- all pages, where a log slot is open
abbrev pub open_homes : DirCopy → OpenLogs → Image → List Bytes
open_homes copy logs image = if is_some logs.newest then home_blocks copy 0 copy.dir_blocks image else []

pub record ArePages (copy : DirCopy) (logs : OpenLogs) (pages : Pages) (image : Image) : Type 0 where
  pub number : pages.number ≡ open_log_number logs.newest
  pub blocks : map image_of_page pages.blocks.items ≡ all_filled (all_slots logs) 0 (open_homes copy logs image)
  pub due : pages.due.items ≡ all_due (all_slots logs) 0 (open_homes copy logs image)
  pub sound : first_bad (all_slots logs) 0 (open_homes copy logs image) ≡ None

abbrev pub IsPageDamage : DirCopy → OpenLogs → ℕ → Image → Type 0
IsPageDamage copy logs block image = damaged_page (all_slots logs) 0 (open_homes copy logs image) ≡ Some block
