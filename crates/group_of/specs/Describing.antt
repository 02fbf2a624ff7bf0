-- Which group a record and the records of a catalog's tables describe.
use Rattle.std.specs.Prelude.{◌≡◌, ℕ, List, None}
use Rattle.asm_group.specs.Names.{Bytes}
use Rattle.asm_group.specs.Shape.{Shape}
use Rattle.asm_group.specs.Group.{Cell, Group}
use Rattle.asm_formats.specs.Items.{Item}
use Rattle.asm_formats.specs.Status.{Status}
use Rattle.asm_base.specs.Records.{DirectoryRecord}
use Rattle.asm_placement.specs.Partners.{HasPartners}
use Rattle.asm_images.specs.Describing.{DescribesGroup}
use Rattle.catalog_laws.specs.allocator.UnitMaps.{UnitMap}
use Rattle.catalog_laws.specs.catalog_tables.Faults.{IsCatalogOf}
use Rattle.catalog_laws.specs.catalog_tables.Items.{AreItemsIn, AreItemsOf}
use Rattle.catalog_laws.specs.catalog_tables.Placing.{HasUnits}
use Rattle.catalog_laws.specs.catalog_tables.Rules.{AreOnRegular, KeepsRules, first_unknown}
use Rattle.catalog_laws.specs.catalog_tables.Tables.{AreTables, Catalogued, Tables}
use Rattle.group_of.specs.Groups.{HasCells, cells_of, group_of}

-- The tables of a group of this shape may stand under the record.
pub record StandUnder (r : Status) (s : Shape) (t : Tables) : Type 0 where
  pub rules : KeepsRules s t
  -- their homes have units, by the record's entries
  pub units : (ms : List UnitMap) × HasUnits s r.entries t ms
  -- each entry has a disk record of its number and birth
  pub infos : first_unknown t r.entries ≡ None
  -- no home lies on a disk of a quorum failure group
  pub regular : AreOnRegular r.entries t
  pub partners : HasPartners r.entries

-- Then the record and the items of the tables describe the group of the tables.
abbrev pub TablesDescribe : Type 0
TablesDescribe =
    (r : Status) (items : List Item) (name : Bytes) (s : Shape) (t : Tables) (cells : ℕ → List Cell) → StandUnder r s t → AreItemsOf t items → HasCells t cells
    → DescribesGroup r items (group_of name s t cells)

-- So do the record and the items of the records whose catalog the value is.
abbrev pub CatalogDescribes : Type 0
CatalogDescribes =
    (r : Status) (content : List DirectoryRecord) (items : List Item) (name : Bytes) (c : Catalogued) (cells : ℕ → List Cell) → IsCatalogOf content r.entries c → HasPartners r.entries → AreItemsIn content items
    → HasCells c.tables cells → DescribesGroup r items (group_of name c.shape c.tables cells)

-- the items of the tables describe the group under the record
abbrev pub HaveGroup : Status → Tables → Group → Type 0
HaveGroup r t g = (items : List Item) → AreItemsOf t items → DescribesGroup r items g

-- The catalog's tables describe the group under the record, and their homes have units.
pub record IsDescribed (r : Status) (c : Catalogued) (g : Group) : Type 0 where
  pub tables : AreTables c.tables
  pub units : HasUnits c.shape r.entries c.tables c.units
  pub shape : g.shape ≡ c.shape
  pub describes : HaveGroup r c.tables g

-- A group that the items of tables describe is the group of the tables, with its own cells.
abbrev pub DescribedIsOfTables : Type 0
DescribedIsOfTables = (r : Status) (items : List Item) (t : Tables) (g : Group) → AreTables t → AreItemsOf t items → DescribesGroup r items g → g ≡ group_of g.name g.shape t (cells_of g)

-- The same of a catalog.
abbrev pub DescribedIsOfCatalog : Type 0
DescribedIsOfCatalog = (r : Status) (c : Catalogued) (g : Group) → IsDescribed r c g → g ≡ group_of g.name c.shape c.tables (cells_of g)

-- Each of its files has as many cells as the tables say.
abbrev pub DescribedHasCells : Type 0
DescribedHasCells = (r : Status) (items : List Item) (t : Tables) (g : Group) → AreTables t → AreItemsOf t items → DescribesGroup r items g → HasCells t (cells_of g)

-- ---- the next tables

-- Tables after others, with the same extents and disk records, that keep the rules and have units.
pub record KeepsPlaces (r : Status) (s : Shape) (t u : Tables) : Type 0 where
  pub rules : KeepsRules s u
  pub units : (ms : List UnitMap) × HasUnits s r.entries u ms
  pub extents : u.extents ≡ t.extents
  pub disks : u.disks ≡ t.disks

-- Under the record they describe their group where the ones before describe some group.
abbrev pub NextTablesDescribe : Type 0
NextTablesDescribe =
    (r : Status) (t u : Tables) (g : Group) (cells : ℕ → List Cell) → AreTables t → HaveGroup r t g → KeepsPlaces r g.shape t u → HasCells u cells → HaveGroup r u (group_of g.name g.shape u cells)

-- Files, names, templates and settings are those of the tables before.
pub record KeepsNames (t u : Tables) : Type 0 where
  pub files : u.files ≡ t.files
  pub nodes : u.nodes ≡ t.nodes
  pub templates : u.templates ≡ t.templates

-- Extents, marks, disk records and begun operations are no part of the group.
abbrev pub NamesAreGroup : Type 0
NamesAreGroup = (name : Bytes) (s : Shape) (t u : Tables) (cells : ℕ → List Cell) → KeepsNames t u → group_of name s u cells ≡ group_of name s t cells

-- So where nothing else changes the group is the same.
abbrev pub SurplusDescribes : Type 0
SurplusDescribes = (r : Status) (t u : Tables) (g : Group) → AreTables t → HaveGroup r t g → StandUnder r g.shape u → KeepsNames t u → HaveGroup r u g
