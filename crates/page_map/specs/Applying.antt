-- What a change does to a page table, and which pages it changes.
use Rattle.std.specs.Prelude.{◌≡◌, ◌⊎◌, ℕ, ◌+◌, ◌<◌, ◌≤◌, true, false, ◌||◌, List, length, map, nat_lt, if◌then◌else◌, replicate, Option, Some, None, is_some, IsTrue}
use Rattle.std.specs.List.{list_all}
use Rattle.std.specs.List.Sorted.{IsStrictlySortedBy}
use Rattle.std.specs.Option.{option_map}
use Rattle.std.specs.Map.{lookup}
use Rattle.std.specs.BTreeMap.{is_at}
use Rattle.std.specs.Ordering.{nat_cmp}
use Rattle.asm_formats.specs.asm_group.Names.{Bytes}
use Rattle.asm_formats.specs.Bytes.{block_size}
use Rattle.asm_formats.specs.Items.{Key}
use Rattle.asm_formats.specs.Logs.{PageImage}
use Rattle.asm_formats.specs.Pages.{with_images}
use Rattle.asm_formats.specs.Status.{ascends_from}
use Rattle.allocator.specs.asm_base.declared.block.Block.{Block}
use Rattle.allocator.specs.asm_base.Records.{DirectoryRecord, is_key, record_at}
use Rattle.page_map.specs.declared.change.PageError.{PageError}
use Rattle.page_map.specs.declared.change.PageError.TheVariants.{Full, NoMemory}
use Rattle.page_map.specs.Changes.{is_put, is_gone, last_put, value_after}
use Rattle.page_map.specs.Free.{is_page_free}
use Rattle.page_map.specs.Tables.{PageTable, place_at, block_of, Shows, new_in, room}
use Rattle.allocator.specs.asm_base.Blocks.{image_of_page}

-- Each new key of these has a record on one of the least free pages, and the others are as they were.
pub record AddsNew (old new : PageTable) (put : List DirectoryRecord) : Type 0 where
  pub there : (k : Key) → is_some (place_at new.places k) ≡ (is_some (place_at old.places k) || is_put put k)
  pub places : (k : Key) → is_some (place_at old.places k) ≡ true → place_at new.places k ≡ place_at old.places k
  pub records : (k : Key) → is_some (place_at old.places k) ≡ true → record_at new.records k ≡ record_at old.records k
  pub free : (p : ℕ) → is_page_free new.free p ≡ true → is_page_free old.free p ≡ true
  pub from : (k : Key) (p : ℕ) → place_at old.places k ≡ None → place_at new.places k ≡ Some p → is_page_free old.free p ≡ true
  pub least : (k : Key) (p q : ℕ) → place_at old.places k ≡ None → place_at new.places k ≡ Some p → q < p → is_page_free new.free q ≡ false
  pub units : new.free.units ≡ old.free.units

-- The records of these keys are taken away, and their pages are free.
pub record RemovesAll (old new : PageTable) (gone : List Key) : Type 0 where
  pub records : (k : Key) → record_at new.records k ≡ (if is_gone gone k then None else record_at old.records k)
  pub places : (k : Key) → place_at new.places k ≡ (if is_gone gone k then None else place_at old.places k)
  pub freed : (p : ℕ) → is_page_free new.free p ≡ true → (is_page_free old.free p ≡ true) ⊎ ((k : Key) × (place_at old.places k ≡ Some p) × (is_gone gone k ≡ true))
  pub free : (p : ℕ) → is_page_free old.free p ≡ true → is_page_free new.free p ≡ true
  pub units : new.free.units ≡ old.free.units

-- Each of these keys has the value of its last put.
pub record SetsAll (old new : PageTable) (put : List DirectoryRecord) : Type 0 where
  pub records : (k : Key) → record_at new.records k ≡ last_put put k (record_at old.records k)
  pub places : new.places ≡ old.places
  pub free : new.free ≡ old.free

-- ---- the pages that change

abbrev pub bytes_in : Block → Bytes
bytes_in b = b.bytes

-- the block of a page among these
abbrev pub block_at : List (ℕ × Block) → ℕ → Option Bytes
block_at pages p = option_map bytes_in (lookup (is_at (nat_cmp p)) pages)

-- the page of a key gets a block, where the key has one
pub record PutOne (t : PageTable) (key : Key) (bytes : Bytes) (old new : List (ℕ × Block)) : Type 0 where
  pub block : (k : Key) (p : ℕ) → place_at t.places k ≡ Some p → block_at new p ≡ (if is_key key k then Some bytes else block_at old p)
  pub free : (p : ℕ) → is_page_free t.free p ≡ true → block_at new p ≡ block_at old p
  pub outside : (p : ℕ) → t.free.units ≤ p → block_at new p ≡ block_at old p
  pub count : length new ≤ length old + 1

-- the page of each of these keys gets the block of its last put
pub record PutBlocks (t : PageTable) (put : List DirectoryRecord) (old new : List (ℕ × Block)) : Type 0 where
  pub block : (k : Key) (p : ℕ) → place_at t.places k ≡ Some p → block_at new p ≡ (if is_put put k then Some (block_of k (last_put put k None)) else block_at old p)
  pub free : (p : ℕ) → is_page_free t.free p ≡ true → block_at new p ≡ block_at old p
  pub outside : (p : ℕ) → t.free.units ≤ p → block_at new p ≡ block_at old p
  pub count : length new ≤ length old + length put

-- the page of each of these keys gets zeros
pub record GoneBlocks (t : PageTable) (gone : List Key) (old new : List (ℕ × Block)) : Type 0 where
  pub block : (k : Key) (p : ℕ) → place_at t.places k ≡ Some p → block_at new p ≡ (if is_gone gone k then Some (replicate block_size 0) else block_at old p)
  pub free : (p : ℕ) → is_page_free t.free p ≡ true → block_at new p ≡ block_at old p
  pub outside : (p : ℕ) → t.free.units ≤ p → block_at new p ≡ block_at old p
  pub count : length new ≤ length old + length gone

abbrev pub page_number : ℕ × Block → ℕ
page_number p = p.0

-- of each page that a change touches its block, by number
pub record Blocks (t : PageTable) (put : List DirectoryRecord) (gone : List Key) (pages : List (ℕ × Block)) : Type 0 where
  pub block : (k : Key) (p : ℕ) → place_at t.places k ≡ Some p
      → block_at pages p ≡ (if is_gone gone k then Some (replicate block_size 0) else if is_put put k then Some (block_of k (last_put put k None)) else None)
  pub free : (p : ℕ) → is_page_free t.free p ≡ true → block_at pages p ≡ None
  pub outside : (p : ℕ) → t.free.units ≤ p → block_at pages p ≡ None
  pub count : length pages ≤ length put + length gone
  pub ascend : IsStrictlySortedBy nat_cmp (map page_number pages)

-- ---- the whole change

-- The records are those after the change. Where pages show the table before, they show it after with these in their place.
-- New records take the least pages that are free.
pub record Applies (old new : PageTable) (put : List DirectoryRecord) (gone : List Key) (pages : List (ℕ × Block)) : Type 0 where
  pub records : (k : Key) → record_at new.records k ≡ value_after put gone k (record_at old.records k)
  pub shows : (page : ℕ → Bytes) → Shows old page → Shows new (with_images (map image_of_page pages) page)
  pub least : ((k : Key) → is_put put k ≡ true → is_gone gone k ≡ false) → (k : Key) (p q : ℕ) → place_at old.places k ≡ None → place_at new.places k ≡ Some p → q < p
      → is_page_free old.free q ≡ true → is_page_free new.free q ≡ false
  pub stay : (k : Key) (p : ℕ) → place_at old.places k ≡ Some p → is_gone gone k ≡ false → place_at new.places k ≡ Some p
  pub units : new.free.units ≡ old.free.units
  pub few : length pages ≤ length put + length gone
  pub ascend : IsTrue (ascends_from 0 (map page_number pages))
  pub inside : IsTrue (list_all (λ (p : ℕ × Block). nat_lt p.0 new.free.units) pages)

-- Full is answered where more records are new than there is room for.
abbrev pub IsCause : PageTable → List DirectoryRecord → PageError → Type 0
IsCause t put (Full need free) = (need ≡ new_in t put) × (free ≡ room t) × (free < need)
IsCause t put NoMemory = Unit {0}
