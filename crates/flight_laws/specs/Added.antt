-- Disk records that are added.
use Rattle.std.specs.Prelude.{List}
use Rattle.asm_formats.specs.Items.{Key}
use Rattle.asm_formats.specs.Status as status
use Rattle.asm_base.specs.Records.{DirectoryRecord}
use Rattle.catalog.specs.Plans.{IsPlan, MayAdd, with_records}
use Rattle.disk_directory.specs.Disks.{Disk}
use Rattle.catalog_tables.specs.Tables.{Catalogued}
use Rattle.group_engine.specs.Surplus.{IsSurplus}

-- A plan of records of new disks changes nothing that the group is.
abbrev pub AddedDisksAreSurplus : Type 0
AddedDisksAreSurplus =
    (entries : List status.Entry) (c : Catalogued) (put : List DirectoryRecord) (gone : List Key) (added : List Disk) → MayAdd c.tables added
    → IsPlan c put gone (record c.tables { disks = with_records c.tables.disks added }) → IsSurplus entries c put gone (record c.tables { disks = with_records c.tables.disks added })
