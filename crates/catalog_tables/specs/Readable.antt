-- Records that can be read, so that each table that breaks no rule of its own is made from them.
use Rattle.std.specs.Prelude.{◌≡◌, List, None, IsTrue, is_some}
use Rattle.std.specs.List.Sorted.{IsStrictlySortedBy}
use Rattle.asm_base.specs.Records.{DirectoryRecord, key_cmp, keys_of, record_at}
use Rattle.catalog_tables.specs.Tables.{first_unreadable}
use Rattle.catalog_tables.specs.Faults.{settings_key, templates_key}

-- each record is of the formats, and each key is below those behind it
pub record AreReadable (content : List DirectoryRecord) : Type 0 where
  pub all : first_unreadable content ≡ None
  pub ordered : IsStrictlySortedBy key_cmp (keys_of content)

-- the records of templates and of settings are there
pub record HasNeeded (content : List DirectoryRecord) : Type 0 where
  pub templates : IsTrue (is_some (record_at content templates_key))
  pub settings : IsTrue (is_some (record_at content settings_key))
