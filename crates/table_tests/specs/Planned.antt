-- Changes that are plans.
use Rattle.std.specs.Prelude.{List}
use Rattle.asm_formats.specs.Items.{Key}
use Rattle.asm_base.specs.Records.{DirectoryRecord}
use Rattle.catalog.specs.Plans.{IsPlan}
use Rattle.catalog_tables.specs.Tables.{Catalogued, Tables}

-- The change is a plan, and leads from the catalog to these tables.
pub record IsPlanned (c : Catalogued) (put : List DirectoryRecord) (gone : List Key) : Type 0 where
  pub tables : Tables
  pub plan : IsPlan c put gone tables
