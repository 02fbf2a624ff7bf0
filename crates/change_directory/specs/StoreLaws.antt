-- What a store of several copies needs to know of one of them, image by image, so that it never opens a log slot itself.
use Rattle.std.specs.Prelude.{◌≡◌, ◌≢◌, ◌⊎◌, ℕ, ◌-◌, ◌*◌, ◌<◌, ◌≤◌, true, not, List, [], map, replicate, Option, Some, None, IsTrue}
use Rattle.std.specs.List.{list_all, range_with_len}
use Rattle.bay.specs.Image.{Image, Range, ChangesOnly}
use Rattle.body_slot.specs.Slot.{IsSectorSize}
use Rattle.asm_group.specs.Names.{Bytes}
use Rattle.asm_base.specs.declared.block.Block.{Block}
use Rattle.asm_formats.specs.Among.{IsAmong}
use Rattle.asm_formats.specs.Bytes.{block_size, block}
use Rattle.asm_formats.specs.Regions.{region_start, region_end}
use Rattle.asm_formats.specs.Content.{Content, records_in, is_page, is_empty_page}
use Rattle.asm_formats.specs.Logs.{PageImage, open_logs, logged_image, image_in}
use Rattle.asm_formats.specs.Pages.{home_page, page_at, with_images}
use Rattle.asm_formats.specs.Damage.{directory_damage}
use Rattle.change_directory.specs.declared.copy.DirCopy.{DirCopy}
use Rattle.change_directory.specs.declared.copy.LogSlot.{LogSlot}
use Rattle.change_directory.specs.declared.loading.Pages.{Pages}
use Rattle.change_directory.specs.Logs.{is_open_at, commit_number_at, bytes_of_page, are_pages}
use Rattle.asm_base.specs.Blocks.{image_of_page}
use Rattle.change_directory.specs.Changes.{copy_disk_bytes, content_in, IsAtHome, DecodesIn, IsAbove, MayLog, HasLogged}
use Rattle.change_directory.specs.Homes.{HomesOf, HasHomed, AreDue}
use Rattle.change_directory.specs.Formatting.{AreShut, MayFormat, HasFormatted, MayLoseContent}
use Rattle.change_directory.specs.Laws.{ArePut}
use Rattle.change_directory.specs.Loads.{IsLoaded}

-- ---- a copy and its pages

-- the number of pages and the sector are some of a group
pub record IsShaped (copy : DirCopy) : Type 0 where
  pub sector : IsSectorSize copy.sector
  pub least : 128 ≤ copy.dir_blocks
  pub most : copy.dir_blocks ≤ 16384

-- the copy's blocks lie inside the image
abbrev pub HasRegion : DirCopy → Image → Type 0
HasRegion copy x = region_end copy.dir_blocks * block_size ≤ x.size copy.slot

-- the bytes of the copy's directory region
abbrev pub RegionOf : DirCopy → ℕ → ℕ → Type 0
RegionOf copy = Range copy.slot (region_start * block_size) ((region_end copy.dir_blocks - region_start) * block_size)

-- some log slot is open
abbrev pub HasOpen : DirCopy → Image → Type 0
HasOpen copy x = (log : LogSlot) × (is_open_at copy log x ≡ true)

-- the page that counts
abbrev pub counting_page : DirCopy → Image → ℕ → Bytes
counting_page copy x page = page_at copy.dir_blocks (copy_disk_bytes copy x) page

-- a page without a record
abbrev pub zero_page : ℕ → Bytes
zero_page page = replicate block_size 0

-- these pages, and zeros elsewhere
abbrev pub shown_by : List (ℕ × Block) → ℕ → Bytes
shown_by pages = with_images (map image_of_page pages) zero_page

-- the content of these pages under a commit number
abbrev pub content_with : DirCopy → ℕ → (ℕ → Bytes) → Option Content
content_with copy number page = Some (record { commit = number; items = records_in (map page (range_with_len 0 copy.dir_blocks)) })

-- The pages that count are these, the open log slots decode, and none has a number above this one.
pub record HasPages (copy : DirCopy) (number : ℕ) (page : ℕ → Bytes) (x : Image) : Type 0 where
  pub sized : HasRegion copy x
  pub decodes : DecodesIn copy x
  pub pages : (p : ℕ) → p < copy.dir_blocks → counting_page copy x p ≡ page p
  pub above : (n : ℕ) → number < n → IsAbove copy n x

-- the same, and they are the content under this number
pub record HasContent (copy : DirCopy) (number : ℕ) (page : ℕ → Bytes) (x : Image) : Type 0 where
  pub pages : HasPages copy number page x
  pub content : content_in copy x ≡ content_with copy number page

-- These pages are due, and each other page counts as it stands at home: what a checkpoint of them is asked for.
pub record HasDue (copy : DirCopy) (pages : List (ℕ × Block)) (x : Image) : Type 0 where
  pub ascend : IsTrue (are_pages copy.dir_blocks pages)
  pub due : AreDue copy pages x
  pub others : (p : ℕ) → p < copy.dir_blocks → logged_image (map image_of_page pages) p ≡ None → counting_page copy x p ≡ home_page (copy_disk_bytes copy x) p

-- ---- a load

-- what was loaded is what the copy has
pub record IsReadAs (copy : DirCopy) (pages : Pages) (x : Image) : Type 0 where
  pub decodes : DecodesIn copy x
  pub either : AreShut copy x ⊎ HasOpen copy x
  pub shut : AreShut copy x → (content_in copy x ≡ None) × (pages.number ≡ None) × (pages.blocks.items ≡ []) × (pages.due.items ≡ [])
  pub opened : HasOpen copy x → (number : ℕ) × (pages.number ≡ Some number) × HasContent copy number (shown_by pages.blocks.items) x
  -- of the blocks
  pub ascend : IsTrue (are_pages copy.dir_blocks pages.blocks.items)
  pub decode : IsTrue (list_all (λ (p : ℕ × Block). is_page (bytes_of_page p)) pages.blocks.items)
  pub filled : IsTrue (list_all (λ (p : ℕ × Block). not (is_empty_page (bytes_of_page p))) pages.blocks.items)

-- of each due page the block where it counts
pub record StandAt (copy : DirCopy) (pages : Pages) (x : Image) : Type 0 where
  pub each : (p b : ℕ) → IsAmong pages.due.items (p, b)
      → (p < copy.dir_blocks) × (image_in (open_logs copy.dir_blocks (copy_disk_bytes copy x)) p ≡ Some (counting_page copy x p)) × (block (copy_disk_bytes copy x) b ≡ counting_page copy x p)
  pub all : (p : ℕ) (image : Bytes) → p < copy.dir_blocks → image_in (open_logs copy.dir_blocks (copy_disk_bytes copy x)) p ≡ Some image → (b : ℕ) × IsAmong pages.due.items (p, b)

-- the due pages as they were loaded
abbrev pub due_images : Pages → List PageImage
due_images pages = map (λ (d : ℕ × ℕ). (d.0, shown_by pages.blocks.items d.0)) pages.due.items

-- What is loaded of a copy without damage is its content.
abbrev pub LoadedIsContent : Type 0
LoadedIsContent =
    (copy : DirCopy) (pages : Pages) (x : Image) → IsShaped copy → HasRegion copy x → IsLoaded copy pages x → directory_damage copy.dir_blocks (copy_disk_bytes copy x) ≡ None
    → IsReadAs copy pages x

-- The due pages stand in the blocks that were loaded with them, and are all.
abbrev pub DuesStand : Type 0
DuesStand =
    (copy : DirCopy) (pages : Pages) (x : Image) → IsShaped copy → HasRegion copy x → IsLoaded copy pages x → directory_damage copy.dir_blocks (copy_disk_bytes copy x) ≡ None
    → StandAt copy pages x

-- They are what a checkpoint is asked for.
abbrev pub LoadedIsDue : Type 0
LoadedIsDue =
    (copy : DirCopy) (pages : Pages) (dues : List (ℕ × Block)) (x : Image) → IsShaped copy → HasRegion copy x → IsLoaded copy pages x
    → directory_damage copy.dir_blocks (copy_disk_bytes copy x) ≡ None → map image_of_page dues ≡ due_images pages → HasDue copy dues x

-- ---- a checkpoint

-- While due pages are written home, however torn, the content stays, and they stay due.
abbrev pub HomingKeeps : Type 0
HomingKeeps =
    (copy : DirCopy) (pages : List (ℕ × Block)) (number : ℕ) (page : ℕ → Bytes) (x y : Image) → IsShaped copy → HasContent copy number page x → HasDue copy pages x
    → ChangesOnly (HomesOf copy pages) x y → HasContent copy number page y × HasDue copy pages y

-- Once they are written, each page counts as it stands at home.
abbrev pub HomedSettles : Type 0
HomedSettles =
    (copy : DirCopy) (pages : List (ℕ × Block)) (number : ℕ) (page : ℕ → Bytes) (x y : Image) → IsShaped copy → HasContent copy number page x → HasDue copy pages x
    → HasHomed copy pages x y → HasContent copy number page y × IsAtHome copy y

-- ---- a commit

-- While a log is put, the content stays, or is that with its pages.
abbrev pub LoggingKeepsOrHas : Type 0
LoggingKeepsOrHas =
    (copy : DirCopy) (number before : ℕ) (pages : List (ℕ × Block)) (page : ℕ → Bytes) (x y : Image) → ArePut copy number pages → HasPages copy before page x → IsAtHome copy x
    → before < number → MayLog copy number pages x y
    → (content_in copy y ≡ content_in copy x) ⊎ (content_in copy y ≡ content_with copy number (with_images (map image_of_page pages) page))

-- Once it is put, the copy has them, and they are due.
abbrev pub LoggedHas : Type 0
LoggedHas =
    (copy : DirCopy) (number before : ℕ) (pages : List (ℕ × Block)) (page : ℕ → Bytes) (x y : Image) → ArePut copy number pages → HasPages copy before page x → IsAtHome copy x
    → before < number → HasLogged copy number pages x y
    → HasContent copy number (with_images (map image_of_page pages) page) y × HasDue copy pages y

-- ---- a copy that is made anew

-- a copy without an open log slot, with these pages at home
pub record IsUnopened (copy : DirCopy) (page : ℕ → Bytes) (x : Image) : Type 0 where
  pub shut : AreShut copy x
  pub none : content_in copy x ≡ None
  pub home : IsAtHome copy x
  pub pages : (number : ℕ) → HasPages copy number page x

-- While a copy whose pages count as they stand at home is formatted, its content stays, or is gone.
abbrev pub FormattingLoses : Type 0
FormattingLoses =
    (copy : DirCopy) (x y : Image) → IsShaped copy → HasRegion copy x → DecodesIn copy x → IsAtHome copy x → MayFormat copy x y → MayLoseContent copy x y

-- After a format all pages are zeros.
abbrev pub FormattedIsEmpty : Type 0
FormattedIsEmpty = (copy : DirCopy) (x y : Image) → IsShaped copy → HasRegion copy x → HasFormatted copy x y → IsUnopened copy zero_page y

-- While pages of a copy without an open log slot are written, it has none still, and no content.
abbrev pub UnopenedStays : Type 0
UnopenedStays =
    (copy : DirCopy) (pages : List (ℕ × Block)) (x y : Image) → IsShaped copy → HasRegion copy x → AreShut copy x → IsTrue (are_pages copy.dir_blocks pages)
    → ChangesOnly (HomesOf copy pages) x y → AreShut copy y × (content_in copy y ≡ None)

-- Once they are written, they stand in the place of those before.
abbrev pub UnopenedHomed : Type 0
UnopenedHomed =
    (copy : DirCopy) (pages : List (ℕ × Block)) (page : ℕ → Bytes) (x y : Image) → IsShaped copy → IsUnopened copy page x → IsTrue (are_pages copy.dir_blocks pages)
    → HasHomed copy pages x y → IsUnopened copy (with_images (map image_of_page pages) page) y

-- A commit without pages opens it.
abbrev pub UnopenedOpens : Type 0
UnopenedOpens =
    (copy : DirCopy) (number : ℕ) (page : ℕ → Bytes) (x y : Image) → ArePut copy number [] → IsUnopened copy page x → HasLogged copy number [] x y
    → HasContent copy number page y × IsAtHome copy y

-- And while it is put, there is no content, or that of the pages.
abbrev pub OpeningHasNoneOrAll : Type 0
OpeningHasNoneOrAll =
    (copy : DirCopy) (number : ℕ) (page : ℕ → Bytes) (x y : Image) → ArePut copy number [] → IsUnopened copy page x → MayLog copy number [] x y
    → (content_in copy y ≡ None) ⊎ (content_in copy y ≡ content_with copy number page)

-- ---- elsewhere

-- the copy says the same
pub record SameCopy (copy : DirCopy) (x y : Image) : Type 0 where
  pub content : content_in copy y ≡ content_in copy x
  pub damage : directory_damage copy.dir_blocks (copy_disk_bytes copy y) ≡ directory_damage copy.dir_blocks (copy_disk_bytes copy x)
  pub pages : (p : ℕ) → p < copy.dir_blocks → counting_page copy y p ≡ counting_page copy x p
  pub homes : (p : ℕ) → p < copy.dir_blocks → home_page (copy_disk_bytes copy y) p ≡ home_page (copy_disk_bytes copy x) p
  pub gates : (log : LogSlot) → is_open_at copy log y ≡ is_open_at copy log x
  pub numbers : (log : LogSlot) → commit_number_at copy log y ≡ commit_number_at copy log x
  pub decodes : DecodesIn copy x → DecodesIn copy y
  pub at_home : IsAtHome copy x → IsAtHome copy y
  pub has_pages : (number : ℕ) (page : ℕ → Bytes) → HasPages copy number page x → HasPages copy number page y
  pub has_content : (number : ℕ) (page : ℕ → Bytes) → HasContent copy number page x → HasContent copy number page y
  pub has_due : (pages : List (ℕ × Block)) → HasDue copy pages x → HasDue copy pages y
  pub unopened : (page : ℕ → Bytes) → IsUnopened copy page x → IsUnopened copy page y

-- the disk has its size, and the directory region its bytes
pub record SameRegion (copy : DirCopy) (x y : Image) : Type 0 where
  pub size : y.size copy.slot ≡ x.size copy.slot
  pub bytes : (k : ℕ) → region_start * block_size ≤ k → k < region_end copy.dir_blocks * block_size → y.byte copy.slot k ≡ x.byte copy.slot k

-- A change outside the directory region, on this disk or another, leaves the copy.
abbrev pub RegionIsSame : Type 0
RegionIsSame = (copy : DirCopy) (x y : Image) → IsShaped copy → HasRegion copy x → SameRegion copy x y → SameCopy copy x y

-- A change of a copy on another disk does.
abbrev pub OtherCopyIsSame : Type 0
OtherCopyIsSame =
    (copy other : DirCopy) (x y : Image) → IsShaped copy → HasRegion copy x → copy.slot ≢ other.slot → ChangesOnly (RegionOf other) x y → SameCopy copy x y

-- The calls on a copy change nothing outside its directory region.
pub record StepsStayInside : Type 0 where
  pub logging : (copy : DirCopy) (number : ℕ) (pages : List (ℕ × Block)) (x y : Image) → ArePut copy number pages → MayLog copy number pages x y → ChangesOnly (RegionOf copy) x y
  pub logged : (copy : DirCopy) (number : ℕ) (pages : List (ℕ × Block)) (x y : Image) → ArePut copy number pages → HasLogged copy number pages x y → ChangesOnly (RegionOf copy) x y
  pub homing : (copy : DirCopy) (pages : List (ℕ × Block)) (x y : Image) → IsTrue (are_pages copy.dir_blocks pages) → ChangesOnly (HomesOf copy pages) x y → ChangesOnly (RegionOf copy) x y
  pub homed : (copy : DirCopy) (pages : List (ℕ × Block)) (x y : Image) → IsTrue (are_pages copy.dir_blocks pages) → HasHomed copy pages x y → ChangesOnly (RegionOf copy) x y
  pub formatting : (copy : DirCopy) (x y : Image) → IsShaped copy → MayFormat copy x y → ChangesOnly (RegionOf copy) x y
  pub formatted : (copy : DirCopy) (x y : Image) → IsShaped copy → HasFormatted copy x y → ChangesOnly (RegionOf copy) x y
