-- What a plan of a change of a catalog is.
use Rattle.std.specs.Prelude.{◌≡◌, ◌⊎◌, ◌≤◌, ◌<◌, ℕ, ◌+◌, Bool, true, ◌&&◌, not, List, [], ◌∷◌, length, Option, Some, None, is_some, Ok, IsTrue}
use Rattle.std.specs.List.{All}
use Rattle.asm_group.specs.Group.{Template}
use Rattle.asm_group.specs.NewGroup.{templates_by_name}
use Rattle.asm_group.specs.TemplateEdits.{TemplateEdit, templates_edited}
use Rattle.asm_formats.specs.Among.{IsAmong}
use Rattle.asm_formats.specs.Items.{DiskInfo, Item, Key, disk_item, is_item}
use Rattle.asm_formats.specs.Status as status
use Rattle.asm_base.specs.Records.{DirectoryRecord}
use Rattle.refusal_lines.specs.declared.refusal.Refusal.{Refusal}
use Rattle.refusal_lines.specs.declared.refusal.Refusal.TheVariants as cause
use Rattle.plan_records.specs.allocator.UnitMaps.{UnitMap}
use Rattle.plan_records.specs.page_map.Contents.{IsItemOf}
use Rattle.plan_records.specs.catalog_tables.Changing.{IsAfter}
use Rattle.plan_records.specs.disk_directory.Disks.{Disk, info_at, with_info, without_disk}
use Rattle.plan_records.specs.catalog_tables.Placing.{HasUnits}
use Rattle.plan_records.specs.catalog_tables.Rules.{KeepsRules, blocks_used, first_wrong, is_owned, new_records}
use Rattle.plan_records.specs.catalog_tables.Tables.{Catalogued, Tables}

-- each of the records is one of the formats
abbrev pub ArePlannedItems : List DirectoryRecord → Type 0
ArePlannedItems put = (e : DirectoryRecord) → IsAmong put e → (i : Item) × IsItemOf e.0 e.1 i

-- The change leads from the catalog to these tables: at each key they give what it leaves there, the rules hold of them, their homes have units where the catalog's have, it has at most 64 keys, each record that it puts is one of the formats, and a block is free for each new one, beside the two that are kept.
pub record IsPlan (c : Catalogued) (put : List DirectoryRecord) (gone : List Key) (u : Tables) : Type 0 where
  pub after : IsAfter c.tables put gone u
  pub rules : KeepsRules c.shape u
  pub units : (entries : List status.Entry) → HasUnits c.shape entries c.tables c.units → (ms : List UnitMap) × HasUnits c.shape entries u ms
  pub few : length put + length gone ≤ 64
  pub items : ArePlannedItems put
  pub room : new_records c.tables put + blocks_used c.tables + 2 ≤ c.shape.dir_blocks

-- each chunk is one of a file or of the pending operation's
abbrev pub AreOwned : Tables → Type 0
AreOwned t = first_wrong (is_owned t) t.extents ≡ None

-- ---- disks

-- the disks with another record of one, or without it
abbrev pub with_disk_record : List Disk → ℕ → Option DiskInfo → List Disk
with_disk_record disks d None = without_disk disks d
with_disk_record disks d (Some info) = with_info disks d info

-- a record that is put is one of the formats
abbrev pub may_be_record : ℕ → Option DiskInfo → Bool
may_be_record d None = true
may_be_record d (Some info) = is_item (disk_item d info)

-- The disk has no record and is to have one, and no block is free.
pub record LacksBlock (c : Catalogued) (d : ℕ) (info : Option DiskInfo) : Type 0 where
  pub put : (i : DiskInfo) × (info ≡ Some i)
  pub new : info_at c.tables.disks d ≡ None
  pub full : blocks_used c.tables + 2 ≡ c.shape.dir_blocks

-- want of memory, or of a block
abbrev pub IsDiskRefusal : Catalogued → ℕ → Option DiskInfo → Refusal → Type 0
IsDiskRefusal c d info refusal = (refusal ≡ cause.NoMemory) ⊎ ((refusal ≡ cause.DirectoryFull 1 0) × LacksBlock c d info)

-- the disks with these records, one after the other
abbrev pub with_records : List Disk → List Disk → List Disk
with_records disks [] = disks
with_records disks (x ∷ added) = with_records (with_info disks x.0 x.1) added

-- none of them has a record yet, and no two are of one disk
abbrev pub are_new : List Disk → List Disk → Bool
are_new disks [] = true
are_new disks (x ∷ added) = not (is_some (info_at disks x.0)) && are_new (with_info disks x.0 x.1) added

-- records of new disks that may be put together
pub record MayAdd (t : Tables) (added : List Disk) : Type 0 where
  -- each is one of the formats
  pub items : All (λ (x : Disk). is_item (disk_item x.0 x.1) ≡ true) added
  pub new : IsTrue (are_new t.disks added)
  pub few : length added ≤ 64

-- The disks need a block each, and fewer are free.
pub record LacksOneEach (c : Catalogued) (added : List Disk) (need free : ℕ) : Type 0 where
  pub need_is : need ≡ length added
  pub free_is : free + blocks_used c.tables + 2 ≡ c.shape.dir_blocks
  pub few : free < need

-- want of memory, or of blocks
abbrev pub IsAddRefusal : Catalogued → List Disk → Refusal → Type 0
IsAddRefusal c added refusal = (refusal ≡ cause.NoMemory) ⊎ ((need : ℕ) × (free : ℕ) × (refusal ≡ cause.DirectoryFull need free) × LacksOneEach c added need free)

-- ---- templates

-- the change leads to the catalog's tables with the templates after the edit
pub record IsTemplatePlan (c : Catalogued) (edit : TemplateEdit) (put : List DirectoryRecord) (gone : List Key) : Type 0 where
  pub templates : List Template
  pub edited : templates_edited c.shape.kind (templates_by_name c.tables.templates.templates) edit ≡ Ok (templates_by_name templates)
  pub plan : IsPlan c put gone (record c.tables { templates = record c.tables.templates { templates = templates } })
