-- A page table that is made of the pages of a copy.
use Rattle.std.specs.Prelude.{◌≡◌, ℕ, ◌<◌, ◌≤◌, false, not, nat_lt, ◌==◌, List, [], ◌∷◌, map, if◌then◌else◌, Option, Some, None, is_some, IsTrue, true, replicate}
use Rattle.std.specs.List.{list_all}
use Rattle.asm_formats.specs.asm_group.Names.{Bytes}
use Rattle.asm_formats.specs.Among.{IsAmong}
use Rattle.asm_formats.specs.Bytes.{block_size}
use Rattle.asm_formats.specs.Content.{is_page, is_empty_page, page_items}
use Rattle.asm_formats.specs.Items.{Item, Key, item_key, is_item}
use Rattle.asm_formats.specs.Pages.{with_images}
use Rattle.asm_formats.specs.Records.{record_spelling}
use Rattle.asm_formats.specs.Status.{ascends_from}
use Rattle.asm_formats.specs.Values.{value}
use Rattle.allocator.specs.asm_base.declared.block.Block.{Block}
use Rattle.allocator.specs.asm_base.Records.{DirectoryRecord, is_key, record_at}
use Rattle.page_map.specs.Applying.{page_number}
use Rattle.allocator.specs.asm_base.Blocks.{image_of_page}
use Rattle.page_map.specs.Contents.{AreItems}
use Rattle.page_map.specs.Free.{is_page_free}
use Rattle.page_map.specs.Listing.{page_shown_by}
use Rattle.page_map.specs.Tables.{PageTable, IsPageTable, Shows, place_at}
use Rattle.page_map.specs.declared.loaded.LoadedError.{LoadedError}
use Rattle.page_map.specs.declared.loaded.LoadedError.TheVariants.{Twin, NoMemory}

-- a record more, on this page
pub record AddsAt (old new : PageTable) (key : Key) (value : List ℕ) (page : ℕ) : Type 0 where
  pub records : (k : Key) → record_at new.records k ≡ (if is_key key k then Some value else record_at old.records k)
  pub places : (k : Key) → place_at new.places k ≡ (if is_key key k then Some page else place_at old.places k)
  pub free : (p : ℕ) → is_page_free new.free p ≡ (if p == page then false else is_page_free old.free p)
  pub units : new.free.units ≡ old.free.units

-- ---- the pages of a copy

-- ascending pages of a copy with so many, each the block of a record
pub record AreFilled (pages : ℕ) (blocks : List (ℕ × Block)) : Type 0 where
  pub ascend : IsTrue (ascends_from 0 (map page_number blocks))
  pub inside : IsTrue (list_all (λ (p : ℕ × Block). nat_lt p.0 pages) blocks)
  pub decode : IsTrue (list_all (λ (p : ℕ × Block). is_page p.1.bytes) blocks)
  pub filled : IsTrue (list_all (λ (p : ℕ × Block). not (is_empty_page p.1.bytes)) blocks)

-- the table has so many pages, and these show its records
pub record IsTableOf (pages : ℕ) (blocks : List (ℕ × Block)) (table : PageTable) : Type 0 where
  pub is_table : IsPageTable table
  pub items : AreItems table
  pub shows : Shows table (page_shown_by blocks)
  pub units : table.free.units ≡ pages

-- a page with the key of an earlier one
pub record IsTwinPage (blocks : List (ℕ × Block)) (page : ℕ) : Type 0 where
  pub earlier : ℕ × Block
  pub later : ℕ × Block
  pub first : Item
  pub second : Item
  pub earlier_is : IsAmong blocks earlier
  pub later_is : IsAmong blocks later
  pub behind : earlier.0 < later.0
  pub here : later.0 ≡ page
  pub reads_first : page_items earlier.1.bytes ≡ Some (first ∷ [])
  pub reads_second : page_items later.1.bytes ≡ Some (second ∷ [])
  pub one_key : item_key first ≡ item_key second

-- the first of these
pub record IsFirstTwin (blocks : List (ℕ × Block)) (page : ℕ) : Type 0 where
  pub twin : IsTwinPage blocks page
  pub least : (q : ℕ) → IsTwinPage blocks q → page ≤ q

-- Twin is that one.
abbrev pub TwinCause : List (ℕ × Block) → LoadedError → Type 0
TwinCause blocks (Twin page) = IsFirstTwin blocks page
TwinCause blocks NoMemory = Unit {0}

-- And then no table is shown by these pages.
abbrev pub HasNoTable : ℕ → List (ℕ × Block) → LoadedError → Type 0
HasNoTable pages blocks (Twin page) = (table : PageTable) → IsTableOf pages blocks table → ⊥
HasNoTable pages blocks NoMemory = Unit {0}

-- ---- one page more

-- the block is that of this item
pub record IsBlockOf (block : Block) (i : Item) : Type 0 where
  pub is : IsTrue (is_item i)
  pub bytes : block.bytes ≡ record_spelling i

-- the key and the value are those of the block's item
pub record ReadsItem (block : Block) (e : DirectoryRecord) : Type 0 where
  pub item : Item
  pub is : IsBlockOf block item
  pub key_is : item_key item ≡ e.0
  pub value_is : value item ≡ e.1

-- the record of a page is put on it, where its key wasn't there
pub record PutsPage (old new : PageTable) (page : ℕ) (block : Block) : Type 0 where
  pub item : Item
  pub reads : IsBlockOf block item
  pub absent : place_at old.places (item_key item) ≡ None
  pub adds : AddsAt old new (item_key item) (value item) page

-- its key is there
pub record HasKey (old : PageTable) (block : Block) : Type 0 where
  pub item : Item
  pub reads : IsBlockOf block item
  pub there : is_some (place_at old.places (item_key item)) ≡ true

abbrev pub MakesTwin : PageTable → ℕ → Block → LoadedError → Type 0
MakesTwin old page block (Twin p) = (p ≡ page) × HasKey old block
MakesTwin old page block NoMemory = Unit {0}

-- the page stands in the table with its item
pub record StandsOnPage (table : PageTable) (p : ℕ × Block) (i : Item) : Type 0 where
  pub block : IsBlockOf p.1 i
  pub place : place_at table.places (item_key i) ≡ Some p.0
  pub record_is : record_at table.records (item_key i) ≡ Some (value i)

-- the records of the table are those of these pages, each on its page
pub record HoldsTable (blocks : List (ℕ × Block)) (table : PageTable) : Type 0 where
  pub is_table : IsPageTable table
  pub each : (p : ℕ × Block) → IsAmong blocks p → (i : Item) × StandsOnPage table p i
  pub from : (k : Key) (q : ℕ) → place_at table.places k ≡ Some q → (p : ℕ × Block) × IsAmong blocks p × (i : Item) × StandsOnPage table p i × (item_key i ≡ k)
