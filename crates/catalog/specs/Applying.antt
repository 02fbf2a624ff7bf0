-- When a change may be applied to a catalog.
use Rattle.std.specs.Prelude.{◌≡◌, ℕ, List, Option, Some, None}
use Rattle.asm_formats.specs.Items.{Key}
use Rattle.asm_formats.specs.Status as status
use Rattle.asm_base.specs.Records.{DirectoryRecord}
use Rattle.plan_records.specs.allocator.UnitMaps.{UnitMap}
use Rattle.plan_records.specs.catalog_tables.Changing.{IsAfter}
use Rattle.plan_records.specs.catalog_tables.Placing.{HasUnits, OtherMapsStay, put_maps}
use Rattle.plan_records.specs.catalog_tables.Rules.{KeepsRules}
use Rattle.plan_records.specs.catalog_tables.Tables.{Catalogued, Tables}

-- The change leaves these tables, which keep the rules, and whose homes find their units free.
pub record Leaves (c : Catalogued) (put : List DirectoryRecord) (gone : List Key) (u : Tables) : Type 0 where
  pub after : IsAfter c.tables put gone u
  pub rules : KeepsRules c.shape u
  pub units : (entries : List status.Entry) → HasUnits c.shape entries c.tables c.units → (ms : List UnitMap) × HasUnits c.shape entries u ms

-- The memory for the change was taken: the next tables are those that it leaves.
pub record IsChangeReady (c : Catalogued) (put : List DirectoryRecord) (gone : List Key) : Type 0 where
  pub tables : Tables
  pub next : c.next ≡ Some tables
  pub leaves : Leaves c put gone tables

-- the units with those that were made ready for the next status record, or those of now where none were
abbrev pub next_maps : List UnitMap → Option (List (ℕ × UnitMap)) → List UnitMap
next_maps now None = now
next_maps now (Some next) = put_maps now next

-- The memory for the disks of these entries was taken: the next units, or those of now where they stay, are those of the tables'
-- homes.
pub record AreDisksReady (c : Catalogued) (entries : List status.Entry) : Type 0 where
  pub homes : HasUnits c.shape entries c.tables (next_maps c.units c.next_units)
  -- the maps of disks whose units stay do
  pub others : OtherMapsStay entries c.units (next_maps c.units c.next_units)
