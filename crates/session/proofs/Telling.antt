-- What reports tell, and why they are refused.
use Rattle.std.proofs.Common.{◌≡◌, inl, inr, List, refl}
use Rattle.asm_group.specs.Names.{Bytes, Path}
use Rattle.refusal_lines.specs.Refusals.{meaning_of}
use Rattle.refusal_lines.specs.declared.refusal.Refusal.{Refusal}
use Rattle.refusal_lines.specs.declared.refusal.Refusal.TheVariants as cause
use Rattle.asm_world.specs.World.{SessionEntry}
use Rattle.group_contents.specs.group_engine.Mounts.{MountedGroup}
use Rattle.group_turns.specs.group_reports.Places.{directory_at}
use Rattle.std.specs.Prelude.{Err}
use Rattle.session.specs.Listing.{IsPathCause}
use Rattle.session.specs.Naming.{IsGroupOf, IsOutCause}
use Rattle.session.specs.Sessions.{SessionView}

-- ---- one group

pub no_memory_out : (entries : List SessionEntry) (name : Bytes) → IsOutCause entries name cause.NoMemory
unfolding meaning_of
no_memory_out entries name = inr refl

-- ---- a path

pub at_path : (session : SessionView) (name : Bytes) (path : Path) (m : MountedGroup) (refusal : Refusal) → IsGroupOf session name m → directory_at m.catalog.tables path ≡ Err refusal → IsPathCause session name path refusal
at_path session name path m refusal is_group is = inr (record { group = m; is_group = is_group; caused = is })

pub out_at : (session : SessionView) (name : Bytes) (path : Path) (refusal : Refusal) → IsOutCause session.entries name refusal → IsPathCause session name path refusal
out_at session name path refusal out = inl out

pub no_memory_at : (session : SessionView) (name : Bytes) (path : Path) → IsPathCause session name path cause.NoMemory
no_memory_at session name path = inl (no_memory_out session.entries name)
