-- Extents that no head counts: they are no part of the group, so what changes them alone leads from the group to itself.
use Rattle.std.specs.Prelude.{◌≡◌, ℕ, ◌+◌, ◌<◌, ◌^◌, List, Some, None, true}
use Rattle.bay.specs.Image.{Image}
use Rattle.bay.specs.State.{BayState}
use Rattle.asm_group.specs.Group.{Group}
use Rattle.asm_group.specs.Shape.{Shape}
use Rattle.asm_formats.specs.Items.{FileHead, Key}
use Rattle.asm_formats.specs.Status as status
use Rattle.asm_formats.specs.Status.{Status}
use Rattle.asm_base.specs.Records.{DirectoryRecord}
use Rattle.asm_images.specs.Kept.{Kept}
use Rattle.rebalance.specs.catalog.ExtentPlans.{MayCut, with_cut}
use Rattle.rebalance.specs.catalog.Plans.{IsPlan, with_disk_record}
use Rattle.rebalance.specs.catalog_tables.Rules.{AreOnRegular, first_unknown, homes_at, head_has_extent, marks_of}
use Rattle.rebalance.specs.catalog_tables.Tables.{AreTables, Catalogued, Tables}
use Rattle.rebalance.specs.file_directory.Files.{head_at}
use Rattle.group_of.specs.operations_directory.Operations.{Operations}
use Rattle.group_of.specs.Describing.{HaveGroup, KeepsNames}
use Rattle.group_engine.specs.Becoming.{HoldsIn}
use Rattle.group_engine.specs.Commits.{LeadsTo}
use Rattle.group_engine.specs.Mounts.{MountedGroup, Mounts}

-- The heads are the same, and each extent that a file has by its size has the homes and the marks that it had: others come, change or go.
pub record KeepsDue (s : Shape) (t u : Tables) : Type 0 where
  pub files : u.files ≡ t.files
  pub homes : (f i : ℕ) (head : FileHead) → head_at t.files f ≡ Some head → head_has_extent s head i ≡ true → homes_at u f i ≡ homes_at t f i
  pub marks : (f i : ℕ) (head : FileHead) → head_at t.files f ≡ Some head → head_has_extent s head i ≡ true → marks_of u f i ≡ marks_of t f i

-- So the known bytes of a group that the ones describe stand by the others as they did by them.
abbrev pub SurplusIsHeld : Type 0
SurplusIsHeld =
    (id : ℕ) (r : Status) (t u : Tables) (g : Group) (image : Image) → AreTables t → AreTables u → HaveGroup r t g → KeepsDue g.shape t u → HoldsIn id r t g image → HoldsIn id r u g image

-- The change leads by a plan to tables that have names, files and settings as before, and the extents that the files have by their sizes.
pub record IsSurplus (entries : List status.Entry) (c : Catalogued) (put : List DirectoryRecord) (gone : List Key) (u : Tables) : Type 0 where
  pub plan : IsPlan c put gone u
  pub names : KeepsNames c.tables u
  pub due : KeepsDue c.shape c.tables u
  -- each entry has its disk record still, and homes lie on no disk of a quorum failure group
  pub infos : first_unknown c.tables entries ≡ None → first_unknown u entries ≡ None
  pub regular : AreOnRegular entries c.tables → AreOnRegular entries u

-- On a mounted group it leads from the group to the group itself.
abbrev pub SurplusLeadsOn : BayState → Type 0
SurplusLeadsOn s =
    (n : ℕ) (m : MountedGroup) (put : List DirectoryRecord) (gone : List Key) (g : Group) (kept : Kept) (u : Tables) → Mounts n m s g kept
    → IsSurplus m.register.value.entries m.catalog put gone u → m.register.turn + 1 < 2 ^ 64 → LeadsTo n m put gone s g g kept

-- ---- such plans

-- a cut of extents that their file hasn't by its size
abbrev pub CutIsSurplus : Type 0
CutIsSurplus =
    (entries : List status.Entry) (c : Catalogued) (put : List DirectoryRecord) (gone : List Key) (f n kept : ℕ) → AreTables c.tables → MayCut c.shape c.tables f n kept
    → IsPlan c put gone (with_cut c.tables f n kept) → IsSurplus entries c put gone (with_cut c.tables f n kept)

-- a pending operation or a rebalance that begins or ends
abbrev pub OperationIsSurplus : Type 0
OperationIsSurplus =
    (entries : List status.Entry) (c : Catalogued) (put : List DirectoryRecord) (gone : List Key) (ops : Operations) → IsPlan c put gone (record c.tables { operations = ops })
    → IsSurplus entries c put gone (record c.tables { operations = ops })

-- the record of a disk without an entry, that goes
abbrev pub LeftDiskIsSurplus : Type 0
LeftDiskIsSurplus =
    (entries : List status.Entry) (c : Catalogued) (put : List DirectoryRecord) (gone : List Key) (d : ℕ) → status.entry_of entries d ≡ None
    → IsPlan c put gone (record c.tables { disks = with_disk_record c.tables.disks d None }) → IsSurplus entries c put gone (record c.tables { disks = with_disk_record c.tables.disks d None })
