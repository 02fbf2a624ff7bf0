-- Files of a mounted group by their paths, and why calls on them are refused.
use Rattle.std.specs.Prelude.{◌≡◌, ◌⊎◌, ⊤, ℕ, ◌+◌, ◌%◌, ◌<◌, ◌≤◌, Bool, true, false, ◌&&◌, ◌==◌, not, Option, Some, None, if◌then◌else◌}
use Rattle.std.specs.Option.{option_and_then}
use Rattle.bay.specs.State.{BayState}
use Rattle.asm_group.specs.Names.{Path}
use Rattle.asm_group.specs.Shape.{Shape}
use Rattle.asm_base.specs.declared.kinds.ExtentId.{ExtentId}
use Rattle.refusal_lines.specs.declared.refusal.Refusal.{Refusal}
use Rattle.refusal_lines.specs.declared.refusal.Refusal.TheVariants as cause
use Rattle.asm_formats.specs.Items.{FileHead, Node}
use Rattle.asm_placement.specs.Naming.{is_kind_directory}
use Rattle.file_extents.specs.alias_tree.Nodes.{node_at, number_of}
use Rattle.file_extents.specs.file_directory.Files.{head_at}
use Rattle.file_extents.specs.catalog_tables.Tables.{Tables}
use Rattle.file_extents.specs.group_engine.Commits.{DismountCause}
use Rattle.file_extents.specs.group_engine.Mounts.{MountedGroup}
use Rattle.file_extents.specs.group_pieces.Usable.{HasNoUsableCopy}
use Rattle.file_extents.specs.Filling.{FaultOn}
use Rattle.group_contents.specs.declared.opening.OpenFile.{OpenFile}

-- ---- files by their paths

-- the file that a node names
abbrev pub file_named_by_node : Node → Option ℕ
file_named_by_node node = if is_kind_directory node.kind then None else Some node.file

-- the number of the file at a path, by its system name or its alias
abbrev pub named_file_number : Tables → Path → Option ℕ
named_file_number t path = option_and_then (λ n. option_and_then file_named_by_node (node_at t.nodes n)) (number_of t.nodes path)

-- the head of the file at a path
abbrev pub head_named : Tables → Path → Option FileHead
head_named t path = option_and_then (λ f. head_at t.files f) (named_file_number t path)

-- The file at a path is open: what its head says.
pub record IsOpened (t : Tables) (path : Path) (file : OpenFile) : Type 0 where
  pub number : named_file_number t path ≡ Some file.file
  pub head : FileHead
  pub at : head_at t.files file.file ≡ Some head
  pub size : file.size ≡ head.size
  pub stripe : file.stripe ≡ head.stripe
  pub copies : file.copies ≡ head.copies

-- whole sectors
abbrev pub are_sectors : Shape → ℕ → Bool
are_sectors s n = not (s.sector == 0) && (n % s.sector == 0)

-- ---- refusals

-- there is no file at the path
abbrev pub OpenCause : MountedGroup → Path → Refusal → Type 0
OpenCause m path cause.NoName = head_named m.catalog.tables path ≡ None
OpenCause m path _ = ⊥

-- an extent of the file has no usable copy
abbrev pub LostIn : MountedGroup → OpenFile → ExtentId → Type 0
LostIn m file x = HasNoUsableCopy m x × (x.file ≡ file.file)

-- why a file can't be copied
abbrev pub LostFileCause : MountedGroup → OpenFile → Refusal → Type 0
LostFileCause m file (cause.Lost x) = LostIn m file x
LostFileCause m file _ = ⊥

-- The span is whole sectors, and ends in the file.
pub record IsSpan (m : MountedGroup) (at len : ℕ) (file : OpenFile) : Type 0 where
  pub sectors : (are_sectors m.catalog.shape at && are_sectors m.catalog.shape len) ≡ true
  pub within : at + len ≤ file.size

-- Why a span of a file can't be read or written: it isn't whole sectors, or it is and ends behind the file, or it is one of the file and has
-- an extent without a usable copy.
abbrev pub SpanCause : MountedGroup → ℕ → ℕ → OpenFile → Refusal → Type 0
SpanCause m at len file cause.NotSectors = (are_sectors m.catalog.shape at && are_sectors m.catalog.shape len) ≡ false
SpanCause m at len file cause.OutOfFile = ((are_sectors m.catalog.shape at && are_sectors m.catalog.shape len) ≡ true) × (file.size < at + len)
SpanCause m at len file (cause.Lost x) = IsSpan m at len file × LostIn m file x
SpanCause m at len file _ = ⊥

-- there is no file at the path, or it is refused for this cause
abbrev pub AtFile : MountedGroup → Path → (OpenFile → Refusal → Type 0) → Refusal → Type 0
AtFile m path Cause refusal = OpenCause m path refusal ⊎ ((file : OpenFile) × IsOpened m.catalog.tables path file × Cause file refusal)

-- Why the bytes of a file aren't read: an extent has no usable copy, or the slots of all usable ones failed; or the group takes no calls.
-- Want of memory is free.
abbrev pub ReadCause : MountedGroup → BayState → BayState → OpenFile → Refusal → Type 0
ReadCause m s t file (cause.Lost x) = LostIn m file x
ReadCause m s t file (cause.ReadFault by) = FaultOn m s t by
ReadCause m s t file (cause.Dismounted by) = DismountCause m m s t by
ReadCause m s t file cause.NoMemory = ⊤
ReadCause m s t file _ = ⊥

-- Why bytes aren't written: the slots of all copies of an extent failed, that of this disk among them; or the group takes no calls, or
-- was dismounted. Want of memory is free.
abbrev pub WriteCause : MountedGroup → MountedGroup → BayState → BayState → Refusal → Type 0
WriteCause old new s t (cause.WriteFault by) = FaultOn old s t by
WriteCause old new s t (cause.Dismounted by) = DismountCause old new s t by
WriteCause old new s t cause.NoMemory = ⊤
WriteCause old new s t _ = ⊥

-- why a span of the file at a path isn't written
abbrev pub WriteFileCause : MountedGroup → Path → ℕ → ℕ → MountedGroup → BayState → BayState → Refusal → Type 0
WriteFileCause old path at len new s t refusal = AtFile old path (SpanCause old at len) refusal ⊎ WriteCause old new s t refusal
