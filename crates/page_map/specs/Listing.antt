-- The pages of all records.
use Rattle.std.specs.Prelude.{◌≡◌, ℕ, ◌+◌, ◌≤◌, true, List, length, map, nat_lt, replicate, Some, None, IsTrue}
use Rattle.std.specs.List.{list_all}
use Rattle.std.specs.List.Sorted.{IsStrictlySortedBy}
use Rattle.asm_formats.specs.asm_group.Names.{Bytes}
use Rattle.asm_formats.specs.Bytes.{block_size}
use Rattle.asm_formats.specs.Items.{Key}
use Rattle.asm_formats.specs.Pages.{with_images}
use Rattle.asm_formats.specs.Status.{ascends_from}
use Rattle.allocator.specs.asm_base.declared.block.Block.{Block}
use Rattle.allocator.specs.asm_base.Records.{key_cmp, record_at}
use Rattle.page_map.specs.Applying.{block_at, page_number}
use Rattle.allocator.specs.asm_base.Blocks.{image_of_page}
use Rattle.page_map.specs.Free.{is_page_free}
use Rattle.page_map.specs.Tables.{PageTable, Shows, block_of, place_at}

-- these pages, and zeros elsewhere
abbrev pub page_shown_by : List (ℕ × Block) → ℕ → Bytes
page_shown_by pages = with_images (map image_of_page pages) (λ (p : ℕ). replicate block_size 0)

-- Of each record its page with its block, by number: with zeros elsewhere they show the table, and no page is without a record.
pub record Lists (t : PageTable) (pages : List (ℕ × Block)) : Type 0 where
  pub shows : Shows t (page_shown_by pages)
  pub held : (p : ℕ) (b : Bytes) → block_at pages p ≡ Some b → (k : Key) × (place_at t.places k ≡ Some p)
  pub count : length pages ≡ length t.places
  pub ascend : IsTrue (ascends_from 0 (map page_number pages))
  pub inside : IsTrue (list_all (λ (p : ℕ × Block). nat_lt p.0 t.free.units) pages)

abbrev pub key_of_place : Key × ℕ → Key
key_of_place e = e.0

-- the pages of all keys but of those that are left
pub record ListsBut (t : PageTable) (left : List (Key × ℕ)) (pages : List (ℕ × Block)) : Type 0 where
  pub there : (k : Key) (p : ℕ) → place_at left k ≡ Some p → place_at t.places k ≡ Some p
  pub done : (k : Key) (p : ℕ) → place_at t.places k ≡ Some p → place_at left k ≡ None → block_at pages p ≡ Some (block_of k (record_at t.records k))
  pub later : (k : Key) (p : ℕ) → place_at left k ≡ Some p → block_at pages p ≡ None
  pub free : (p : ℕ) → is_page_free t.free p ≡ true → block_at pages p ≡ None
  pub outside : (p : ℕ) → t.free.units ≤ p → block_at pages p ≡ None
  pub count : length pages + length left ≡ length t.places
  pub ordered : IsStrictlySortedBy key_cmp (map key_of_place left)
