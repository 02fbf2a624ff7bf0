-- An operation on a file that begins, and the homes of its new extents.
use Rattle.std.specs.Prelude.{◌≡◌, ◌⊎◌, List, None, Some}
use Rattle.bay.specs.State.{BayState}
use Rattle.asm_group.specs.declared.PendingKind.{PendingKind}
use Rattle.asm_base.specs.Records.{DirectoryRecord}
use Rattle.refusal_lines.specs.declared.refusal.Refusal.{Refusal}
use Rattle.asm_formats.specs.Items.{Key}
use Rattle.catalog_tables.specs.Changing.{IsAfter}
use Rattle.group_pieces.specs.catalog.Plans.{IsPlan}
use Rattle.catalog_tables.specs.Tables.{Tables}
use Rattle.group_pieces.specs.group_engine.Commits.{StatusCause}
use Rattle.group_pieces.specs.group_engine.Mounts.{IsMounted, MountedGroup}
use Rattle.file_extents.specs.Rows.{SpaceCause}
use Rattle.file_extents.specs.declared.rows.NewExtents.{NewExtents}

-- the tables with an operation pending that makes these extents
abbrev pub begun : Tables → PendingKind → NewExtents → Tables
begun t kind new = record t { operations = record t.operations { pending = Some (record { kind = kind; file = new.file; kept = new.first }) } }

-- The operation that makes these extents was committed as the pending one.
pub record Begins (before : MountedGroup) (kind : PendingKind) (new : NewExtents) (after : MountedGroup) : Type 0 where
  pub put : List DirectoryRecord
  pub gone : List Key
  pub plan : IsPlan before.catalog put gone (begun before.catalog.tables kind new)
  pub applied : IsAfter before.catalog.tables put gone after.catalog.tables

-- while the group takes calls still, nothing is pending
abbrev pub IsGivenBack : MountedGroup → Type 0
IsGivenBack m = IsMounted m → m.catalog.tables.operations.pending ≡ None

-- Why the extents of an operation that has begun get no homes: there is no choice for one once those before it have theirs, and the
-- operation was given back; or it couldn't be. Want of memory is free.
abbrev pub HomesCause : MountedGroup → NewExtents → MountedGroup → BayState → BayState → Refusal → Type 0
HomesCause old new after s t refusal = (SpaceCause old new refusal × IsGivenBack after) ⊎ StatusCause old after s t refusal
