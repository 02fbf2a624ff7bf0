-- Changes that a mounted group may commit.
use Rattle.std.specs.Prelude.{◌≡◌, ◌+◌, ◌≤◌, true, List, None, length}
use Rattle.asm_formats.specs.Items.{Key}
use Rattle.asm_base.specs.Records.{DirectoryRecord}
use Rattle.catalog.specs.Applying.{Leaves}
use Rattle.catalog_tables.specs.Tables.{Catalogued, Tables, records_of}
use Rattle.directory_store.specs.Contents.{ArePutItems}
use Rattle.page_map.specs.Changes.{is_gone, is_put}

-- The change leaves tables, has at most 64 keys, and puts records of the formats.
pub record MayCommitChange (c : Catalogued) (put : List DirectoryRecord) (gone : List Key) : Type 0 where
  pub tables : Tables
  pub leaves : Leaves c put gone tables
  pub few : length put + length gone ≤ 64
  pub items : ArePutItems put

-- Each key of a record that is put goes, and none that goes has a record.
pub record PutsNone (t : Tables) (put : List DirectoryRecord) (gone : List Key) : Type 0 where
  pub items : ArePutItems put
  pub go : (k : Key) → is_put put k ≡ true → is_gone gone k ≡ true
  pub none : (k : Key) → is_gone gone k ≡ true → records_of t k ≡ None
