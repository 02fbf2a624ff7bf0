-- What is so of the tables of a group, and why find and du are refused.
use Rattle.std.specs.Prelude.{◌≡◌, ◌⊎◌, Err}
use Rattle.asm_group.specs.Names.{Bytes, Path}
use Rattle.refusal_lines.specs.declared.refusal.Refusal.{Refusal}
use Rattle.group_contents.specs.group_engine.Mounts.{MountedGroup}
use Rattle.group_turns.specs.group_reports.Places.{directory_at}
use Rattle.session.specs.Naming.{IsGroupOf, IsOutCause}
use Rattle.session.specs.Sessions.{SessionView}

-- By the tables of the mounted group of a name.
pub record IsInGroup (session : SessionView) (name : Bytes) (why : MountedGroup → Type 0) : Type 0 where
  pub group : MountedGroup
  pub is_group : IsGroupOf session name group
  pub caused : why group

-- of find and du: the group isn't there or isn't mounted, or the path names no directory in it
abbrev pub IsPathCause : SessionView → Bytes → Path → Refusal → Type 0
IsPathCause session name path refusal =
    IsOutCause session.entries name refusal ⊎ IsInGroup session name (λ m. directory_at m.catalog.tables path ≡ Err refusal)
