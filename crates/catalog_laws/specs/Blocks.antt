-- How many blocks there are for the records that a change puts, by the tables and by the pages of a store.
use Rattle.std.specs.Prelude.{◌≡◌, ◌≤◌, List, map}
use Rattle.std.specs.List.Sorted.{IsStrictlySortedBy}
use Rattle.asm_formats.specs.Items.{Key}
use Rattle.catalog.specs.asm_base.Records.{DirectoryRecord, key_cmp, record_at}
use Rattle.catalog.specs.page_map.Listing.{key_of_place}
use Rattle.catalog.specs.page_map.Tables.{IsPageTable, PageTable, new_in, room, used_pages}
use Rattle.catalog.specs.Plans.{IsPlan}
use Rattle.catalog.specs.catalog_tables.Rules.{blocks_used, new_records}
use Rattle.catalog.specs.catalog_tables.Tables.{AreTables, Catalogued, Tables, records_of}

-- the records on the pages are those of the tables, and no key has two pages
pub record ArePaged (t : Tables) (pages : PageTable) : Type 0 where
  pub tables : AreTables t
  pub is_table : IsPageTable pages
  pub ordered : IsStrictlySortedBy key_cmp (map key_of_place pages.places)
  pub records : (k : Key) → records_of t k ≡ record_at pages.records k

-- No more pages are used than the tables count, and a change puts as many new records on pages as into the tables.
pub record BlocksAreCounted : Type 0 where
  pub used : (t : Tables) (pages : PageTable) → ArePaged t pages → used_pages pages ≤ blocks_used t
  pub new : (t : Tables) (pages : PageTable) (put : List DirectoryRecord) → ArePaged t pages → new_in pages put ≡ new_records t put

-- There is room for what a plan puts.
abbrev pub PlansHaveRoom : Type 0
PlansHaveRoom = (c : Catalogued) (pages : PageTable) (put : List DirectoryRecord) (gone : List Key) (u : Tables) → ArePaged c.tables pages → pages.free.units ≡ c.shape.dir_blocks → IsPlan c put gone u → new_in pages put ≤ room pages
