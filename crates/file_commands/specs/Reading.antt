-- What commands that read the bytes of files do, and what they show.
use Rattle.std.specs.Prelude.{◌≡◌, ◌⊎◌, ⊤, ℕ, List, [], ◌++◌, length}
use Rattle.bay.specs.Image.{Same}
use Rattle.bay.specs.Moments.{Runs}
use Rattle.bay.specs.State.{BayState, KeepsAttached}
use Rattle.refusal_lines.specs.Refusals.{meaning_of}
use Rattle.asm_base.specs.declared.path.Path as code
use Rattle.refusal_lines.specs.declared.refusal.Refusal.{Refusal}
use Rattle.asm_group.specs.Group.{Group}
use Rattle.asm_group.specs.Names.{Bytes, Path}
use Rattle.asm_group.specs.Refusal as r
use Rattle.asm_world.specs.Command.{Asked, DbRead}
use Rattle.asm_world.specs.Language.{command_of}
use Rattle.asm_world.specs.Text.{read_lines}
use Rattle.asmcmd.specs.Runs.{HoldsRun, RunsView}
use Rattle.catalog_tables.specs.Rules.{KeepsRules}
use Rattle.session.specs.group_engine.Mounts.{MountedGroup}
use Rattle.session.specs.group_contents.Files.{AtFile, IsOpened, IsSpan, SpanCause}
use Rattle.session.specs.group_contents.Reading.{ShowsFile, WhereMounted}
use Rattle.session.specs.group_contents.declared.opening.OpenFile.{OpenFile}
use Rattle.session.specs.Leading.{IsLedTo}
use Rattle.session.specs.Listing.{IsInGroup}
use Rattle.session.specs.Naming.{IsGroupOf, IsOutCause}
use Rattle.session.specs.Sessions.{SessionView}

-- Nothing was written, and the same disks are attached.
pub record ReadsOnly (s t : BayState) : Type 0 where
  pub attached : KeepsAttached s t
  pub runs : Runs (λ (slot : ℕ). ⊤) Same s t

-- P, of each group as which the mounted group of a name was mounted, where the bay tells what the disks hold
abbrev pub WhereMountedIn : SessionView → Bytes → BayState → BayState → (Group → Type 0) → Type 0
WhereMountedIn session name s t P = (m : MountedGroup) → IsGroupOf session name m → WhereMounted m s t P

-- bytes of the file from byte `at` on, as the mounted group of the name has them
abbrev pub ShowsBytes : SessionView → Bytes → OpenFile → ℕ → BayState → BayState → Bytes → Type 0
ShowsBytes session name file at s t bytes = WhereMountedIn session name s t (λ g. ShowsFile g file at bytes)

-- So many bytes of the file from byte `at` on were put behind those that were put before.
pub record PutsRead (session : SessionView) (name : Bytes) (file : OpenFile) (at n : ℕ) (s t : BayState) (old new : RunsView) : Type 0 where
  pub bytes : Bytes
  pub many : length bytes ≡ n
  pub holds : (from : ℕ) (before : Bytes) → HoldsRun old from before → HoldsRun new from (before ++ bytes)
  pub shows : ShowsBytes session name file at s t bytes

-- So many bytes of the file from byte `at` on were put, and no others.
pub record HasRead (session : SessionView) (name : Bytes) (file : OpenFile) (at n : ℕ) (s t : BayState) (runs : RunsView) : Type 0 where
  pub bytes : Bytes
  pub many : length bytes ≡ n
  pub holds : HoldsRun runs at bytes
  pub shows : ShowsBytes session name file at s t bytes

-- The file at the path is open, and the span is one of it.
pub record OpensSpan (m : MountedGroup) (path : Path) (at len : ℕ) (file : OpenFile) : Type 0 where
  pub opened : IsOpened m.catalog.tables path file
  pub span : IsSpan m at len file

-- The lines are those of a span of the file at the path in the mounted group of the name.
pub record ReadsLines (session : SessionView) (name : Bytes) (path : Path) (at len : ℕ) (s t : BayState) (lines : List Bytes) : Type 0 where
  pub file : OpenFile
  pub found : IsInGroup session name (λ m. OpensSpan m path at len file)
  pub bytes : Bytes
  pub many : length bytes ≡ len
  pub shows : ShowsBytes session name file at s t bytes
  pub prints : lines ≡ read_lines at bytes

-- the text asks for a span of the file at a path to which the path of the verb leads from a place
abbrev pub AsksRead : Bytes → List Bytes → code.Path → ℕ → ℕ → Type 0
AsksRead text place led at len = (path : Bytes) × (command_of text ≡ Asked (DbRead path at len)) × IsLedTo place path led

-- ---- refusals

-- what the bytes of an open file are refused by: an extent has no usable copy, or all of one failed. Want of memory is free.
abbrev pub FailsRead : r.Refusal → Type 0
FailsRead (r.Lost file extent) = ⊤
FailsRead (r.ReadFault disk) = ⊤
FailsRead r.NoMemory = ⊤
FailsRead other = ⊥

-- why the bytes of a file of the mounted group of a name aren't read
abbrev pub IsFileReadCause : SessionView → Bytes → Refusal → Type 0
IsFileReadCause session name refusal = IsOutCause session.entries name refusal ⊎ FailsRead (meaning_of (λ _. []) refusal)

-- by tables that keep their rules there is no file at the path, or the span is none of it
abbrev pub IsNoSpan : MountedGroup → Path → ℕ → ℕ → Refusal → Type 0
IsNoSpan m path at len refusal = KeepsRules m.catalog.shape m.catalog.tables × AtFile m path (SpanCause m at len) refusal

-- Why a span of the file at a path in the mounted group of a name isn't read.
pub data IsLinesCause (session : SessionView) (name : Bytes) (path : Path) (at len : ℕ) (refusal : Refusal) : Type 0 where
  -- the group isn't there or isn't mounted, or memory was short
  out : IsOutCause session.entries name refusal → IsLinesCause session name path at len refusal
  none : IsInGroup session name (λ m. IsNoSpan m path at len refusal) → IsLinesCause session name path at len refusal
  -- there is one
  failed : IsInGroup session name (λ m. (file : OpenFile) × OpensSpan m path at len file) → FailsRead (meaning_of (λ _. []) refusal) → IsLinesCause session name path at len refusal
