-- The tables that a catalog keeps beside its own.
use Rattle.std.specs.Prelude.{ℕ, List, Option, Some, None, IsTrue, Vec}
use Rattle.std.specs.declared.alloc.Global.{Global}
use Rattle.asm_group.specs.Shape.{is_shape}
use Rattle.plan_records.specs.allocator.UnitMaps.{UnitMap}
use Rattle.catalog.specs.declared.spare.Spare.{Spare}
use Rattle.catalog.specs.declared.spare.Spare.TheVariants.{Absent, Behind, Ready}
use Rattle.plan_records.specs.catalog_tables.Changing.{IsAfter}
use Rattle.plan_records.specs.catalog_tables.Faults.{IsCatalog}
use Rattle.plan_records.specs.catalog_tables.Tables.{AreTables, Catalogued, Tables}

-- the tables that the memory was taken for
abbrev pub ready_tables : Spare → Option Tables
ready_tables Absent = None
ready_tables (Behind parts change) = None
ready_tables (Ready parts change) = Some parts

-- the kept change leads from the kept tables to these, or, where the memory was taken, from these to the kept ones
abbrev pub IsSpareOf : Spare → Tables → Type 0
IsSpareOf Absent t = Unit {0}
IsSpareOf (Behind parts change) t = AreTables parts × IsAfter parts change.put change.gone t
IsSpareOf (Ready parts change) t = IsAfter t change.put change.gone parts

abbrev pub unit_maps_in : Option (Vec (ℕ × UnitMap) Global) → Option (List (ℕ × UnitMap))
unit_maps_in None = None
unit_maps_in (Some units) = Some units.items

-- The value is a catalog, and the kept tables are spare ones of its own.
pub record IsCatalogWithSpare (c : Catalogued) (spare : Spare) : Type 0 where
  pub catalog : IsCatalog c
  pub shape : IsTrue (is_shape c.shape)
  pub kept : IsSpareOf spare c.tables
