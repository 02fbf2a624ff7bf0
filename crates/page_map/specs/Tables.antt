-- Which record stands on which page.
use Rattle.std.specs.Prelude.{◌≡◌, ℕ, ◌+◌, ◌-◌, ◌<◌, Bool, true, false, ◌&&◌, not, nat_le, ◌==◌, List, [], ◌∷◌, length, if◌then◌else◌, replicate, Option, Some, None, is_some}
use Rattle.std.specs.Map.{lookup}
use Rattle.asm_formats.specs.asm_group.Names.{Bytes}
use Rattle.asm_formats.specs.Bytes.{block_size}
use Rattle.asm_formats.specs.Items.{Key, operations_kind}
use Rattle.asm_formats.specs.Records.{frame_spelling}
use Rattle.allocator.specs.asm_base.Records.{DirectoryRecord, is_key, record_at}
use Rattle.allocator.specs.asm_base.Frames.{entry_frame}
use Rattle.page_map.specs.Free.{FreeMap, is_page_free, IsLeastFreePage}
use Rattle.page_map.specs.Changes.{is_put}

-- the page at a key
abbrev pub place_at : List (Key × ℕ) → Key → Option ℕ
place_at places k = lookup (is_key k) places

pub record PageTable : Type 0 where
  -- the records, in the order of their keys
  pub records : List DirectoryRecord
  -- of each key its page
  pub places : List (Key × ℕ)
  pub free : FreeMap

-- Each record has a page of its own, and each page is free or a record's.
pub record IsPageTable (t : PageTable) : Type 0 where
  pub same : (k : Key) → is_some (record_at t.records k) ≡ is_some (place_at t.places k)
  pub inside : (k : Key) (page : ℕ) → place_at t.places k ≡ Some page → page < t.free.units
  pub taken : (k : Key) (page : ℕ) → place_at t.places k ≡ Some page → is_page_free t.free page ≡ false
  pub apart : (j k : Key) (page : ℕ) → place_at t.places j ≡ Some page → place_at t.places k ≡ Some page → is_key j k ≡ true
  pub owned : (page : ℕ) → page < t.free.units → is_page_free t.free page ≡ false → (k : Key) × (place_at t.places k ≡ Some page)

-- ---- blocks

-- the block of the record of a key, or zeros where there is none
abbrev pub block_of : Key → Option (List ℕ) → Bytes
block_of k None = replicate block_size 0
block_of k (Some value) = frame_spelling (entry_frame (k, value))

-- these pages show the table
pub record Shows (t : PageTable) (page : ℕ → Bytes) : Type 0 where
  pub taken : (k : Key) (p : ℕ) → place_at t.places k ≡ Some p → page p ≡ block_of k (record_at t.records k)
  pub free : (p : ℕ) → is_page_free t.free p ≡ true → page p ≡ replicate block_size 0

-- ---- room

-- the key of the active rebalance or of the pending operation, for which two pages are kept
abbrev pub has_kept_pages : Key → Bool
has_kept_pages k = (k.kind == operations_kind) && (nat_le k.a 1 && (k.b == 0))

abbrev pub rebalance_key : Key
rebalance_key = record { kind = operations_kind; a = 0; b = 0 }

abbrev pub pending_key : Key
pending_key = record { kind = operations_kind; a = 1; b = 0 }

abbrev pub one_if : Bool → ℕ
one_if b = if b then 1 else 0

-- the records but these two
abbrev pub used_pages : PageTable → ℕ
used_pages t = length t.places - (one_if (is_some (place_at t.places rebalance_key)) + one_if (is_some (place_at t.places pending_key)))

-- the pages that are left for other records than these two
abbrev pub room : PageTable → ℕ
room t = t.free.units - 2 - used_pages t

-- the key isn't there, and isn't one of these two
abbrev pub is_new : PageTable → Key → Bool
is_new t k = not (has_kept_pages k) && not (is_some (place_at t.places k))

-- how many new records are put, each counted where it is put last
abbrev pub new_in : PageTable → List DirectoryRecord → ℕ
new_in t [] = 0
new_in t (p ∷ ps) = one_if (is_new t p.0 && not (is_put ps p.0)) + new_in t ps

-- ---- steps

-- the same records on the same pages
pub record SameTable (old new : PageTable) : Type 0 where
  pub records : (k : Key) → record_at new.records k ≡ record_at old.records k
  pub places : (k : Key) → place_at new.places k ≡ place_at old.places k
  pub free : (page : ℕ) → is_page_free new.free page ≡ is_page_free old.free page
  pub units : new.free.units ≡ old.free.units
  pub count : length new.places ≡ length old.places

-- a record more, on the least free page
pub record Adds (old new : PageTable) (key : Key) (value : List ℕ) : Type 0 where
  pub page : ℕ
  pub least : IsLeastFreePage old.free page
  pub records : (k : Key) → record_at new.records k ≡ (if is_key key k then Some value else record_at old.records k)
  pub places : (k : Key) → place_at new.places k ≡ (if is_key key k then Some page else place_at old.places k)
  pub free : (p : ℕ) → is_page_free new.free p ≡ (if p == page then false else is_page_free old.free p)
  pub units : new.free.units ≡ old.free.units
  pub count : length new.places ≡ length old.places + 1

-- this page, where there is one
abbrev pub is_this_page : Option ℕ → ℕ → Bool
is_this_page None p = false
is_this_page (Some page) p = p == page

-- a record less; its page is free
pub record Removes (old new : PageTable) (key : Key) : Type 0 where
  pub records : (k : Key) → record_at new.records k ≡ (if is_key key k then None else record_at old.records k)
  pub places : (k : Key) → place_at new.places k ≡ (if is_key key k then None else place_at old.places k)
  pub free : (p : ℕ) → is_page_free new.free p ≡ (if is_this_page (place_at old.places key) p then true else is_page_free old.free p)
  pub units : new.free.units ≡ old.free.units
  pub count : length new.places + one_if (is_some (place_at old.places key)) ≡ length old.places
