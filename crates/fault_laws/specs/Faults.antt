-- Records that describe a group are not at fault.
use Rattle.std.specs.Prelude.{◌≡◌, List, IsTrue}
use Rattle.std.specs.List.Sorted.{IsStrictlySortedBy}
use Rattle.asm_group.specs.Group.{Group}
use Rattle.asm_formats.specs.Items.{Item, Key}
use Rattle.asm_formats.specs.Status.{Status, is_status}
use Rattle.asm_base.specs.Records.{DirectoryRecord, key_cmp, keys_of}
use Rattle.asm_images.specs.Describing.{DescribesGroup}
use Rattle.catalog_tables.specs.Faults.{IsAtFault, IsCatalogOf}
use Rattle.catalog_tables.specs.Items.{AreItemsIn, AreItemsOf}
use Rattle.catalog_tables.specs.Tables.{AreTables, Catalogued, Tables}
use Rattle.group_of.specs.Describing.{StandUnder}

-- Tables whose items describe a group under a status record may stand under it, as tables of the group's shape.
abbrev pub DescribedStandUnder : Type 0
DescribedStandUnder = (r : Status) (items : List Item) (t : Tables) (g : Group) → IsTrue (is_status r) → AreTables t → AreItemsOf t items → DescribesGroup r items g → StandUnder r g.shape t

-- The keys of the content ascend, and its items describe the group under the status record.
pub record DescribeIn (content : List DirectoryRecord) (r : Status) (g : Group) : Type 0 where
  pub ordered : IsStrictlySortedBy key_cmp (keys_of content)
  pub items : List Item
  pub are : AreItemsIn content items
  pub describes : DescribesGroup r items g

-- a catalog of the content, for the entries of the record and the shape of the group
pub record HaveCatalog (content : List DirectoryRecord) (r : Status) (g : Group) : Type 0 where
  pub catalog : Catalogued
  pub shape_is : catalog.shape ≡ g.shape
  pub is : IsCatalogOf content r.entries catalog

-- Then the content has a catalog.
abbrev pub DescribedHaveCatalog : Type 0
DescribedHaveCatalog = (r : Status) (content : List DirectoryRecord) (g : Group) → IsTrue (is_status r) → DescribeIn content r g → HaveCatalog content r g

-- And no record of it is at fault.
abbrev pub DescribedIsNoFault : Type 0
DescribedIsNoFault = (r : Status) (content : List DirectoryRecord) (g : Group) (k : Key) → IsTrue (is_status r) → DescribeIn content r g → IsAtFault content g.shape r.entries k → ⊥
