-- A group under another status record.
use Rattle.std.specs.Prelude.{List}
use Rattle.asm_group.specs.Group.{Group}
use Rattle.asm_formats.specs.Status.{Status}
use Rattle.asm_formats.specs.Items.{Item}
use Rattle.asm_images.specs.Describing.{DescribesGroup}
use Rattle.asm_images.specs.RecordLaws.{ChangesModes}
use Rattle.group_engine.specs.catalog_tables.Tables.{AreTables, Tables}
use Rattle.group_engine.specs.group_of.Describing.{HaveGroup, StandUnder}

-- A group that records describe under a status record is described by them under one with other modes.
abbrev pub ModesDescribe : Type 0
ModesDescribe = (r s : Status) (items : List Item) (g : Group) → ChangesModes r s → DescribesGroup r items g → DescribesGroup s items g

-- So is one that tables describe, under a record with other entries under which the tables may stand.
abbrev pub EntriesDescribe : Type 0
EntriesDescribe = (r s : Status) (t : Tables) (g : Group) → AreTables t → HaveGroup r t g → StandUnder s g.shape t → HaveGroup s t g
