-- Files that go: what is committed, and why they don't.
use Rattle.std.specs.Prelude.{◌≡◌, ◌⊎◌, ℕ, Bool, true, false, List, Option, Some, None}
use Rattle.bay.specs.State.{BayState}
use Rattle.asm_group.specs.Names.{Path}
use Rattle.asm_group.specs.TreeEdits as e
use Rattle.asm_base.specs.Records.{DirectoryRecord}
use Rattle.refusal_lines.specs.declared.refusal.Refusal.{Refusal}
use Rattle.asm_formats.specs.Items.{Key, Node}
use Rattle.asm_placement.specs.Naming.{is_kind_directory}
use Rattle.file_extents.specs.alias_tree.Nodes.{node_at, number_of}
use Rattle.file_extents.specs.catalog_tables.Changing.{IsAfter}
use Rattle.file_extents.specs.catalog.FilePlans.{IsRemovalPlan}
use Rattle.file_extents.specs.catalog_tables.Tables.{Tables}
use Rattle.file_extents.specs.catalog.TreePlans.{IsTreePlan, IsTreeRefusal}
use Rattle.file_extents.specs.group_engine.Commits.{StatusCause}
use Rattle.file_extents.specs.group_engine.Mounts.{MountedGroup}
use Rattle.group_contents.specs.Files.{OpenCause, named_file_number}

-- the head and the names of a file were taken away, and its removal is pending
pub record RemovesFile (before : MountedGroup) (file : ℕ) (after : MountedGroup) : Type 0 where
  pub put : List DirectoryRecord
  pub gone : List Key
  pub plan : IsRemovalPlan before.catalog file put gone
  pub applied : IsAfter before.catalog.tables put gone after.catalog.tables

-- The file at a path was taken away, and the removal has ended.
pub record IsRemoved (before : MountedGroup) (path : Path) (after : MountedGroup) : Type 0 where
  pub file : ℕ
  pub named : named_file_number before.catalog.tables path ≡ Some file
  pub between : MountedGroup
  pub removed : RemovesFile before file between
  pub ended : after.catalog.tables.operations.pending ≡ None

-- the empty directory at a path was taken away
pub record DropsDirectory (before : MountedGroup) (path : Path) (after : MountedGroup) : Type 0 where
  pub put : List DirectoryRecord
  pub gone : List Key
  pub plan : IsTreePlan before.catalog (e.DropDir path) put gone
  pub applied : IsAfter before.catalog.tables put gone after.catalog.tables

-- the root is a directory
abbrev pub is_directory_or_root : Option Node → Bool
is_directory_or_root None = true
is_directory_or_root (Some node) = is_kind_directory node.kind

abbrev pub directory_at : Tables → Option ℕ → Bool
directory_at t None = false
directory_at t (Some n) = is_directory_or_root (node_at t.nodes n)

-- a directory, or the root, is at the path
abbrev pub leads_to_directory : Tables → Path → Bool
leads_to_directory t path = directory_at t (number_of t.nodes path)

-- a directory, or else a file, goes
abbrev pub DropsNode : Bool → MountedGroup → Path → MountedGroup → Type 0
DropsNode true before path after = DropsDirectory before path after
DropsNode false before path after = IsRemoved before path after

-- what is at the path goes: a directory, or a file
abbrev pub RemovesPath : MountedGroup → Path → MountedGroup → Type 0
RemovesPath before path after = DropsNode (leads_to_directory before.catalog.tables path) before path after

-- why a directory, or else a file, is refused by what the tables say
abbrev pub StaysCause : Bool → MountedGroup → Path → Refusal → Type 0
StaysCause true old path refusal = IsTreeRefusal old.catalog (e.DropDir path) refusal
StaysCause false old path refusal = OpenCause old path refusal

-- no file is there, or the directory that is there can't be dropped; or the group takes no calls, or was dismounted
abbrev pub RemoveCause : MountedGroup → Path → MountedGroup → BayState → BayState → Refusal → Type 0
RemoveCause old path new s t refusal = StaysCause (leads_to_directory old.catalog.tables path) old path refusal ⊎ StatusCause old new s t refusal
