-- A group whose record is marked gone.
use Rattle.std.specs.Prelude.{◌≡◌, ℕ, true, IfErr, OnOk, Result, Ok}
use Rattle.bay.specs.State.{BayState}
use Rattle.refusal_lines.specs.declared.refusal.Refusal.{Refusal}
use Rattle.refusal_lines.specs.declared.refusal.Refusal.TheVariants as cause
use Rattle.asm_formats.specs.Status.{Status}
use Rattle.group_engine.specs.Commits.{DismountCause}
use Rattle.status_register.specs.RegisterCalls.{HasWritten}
use Rattle.group_engine.specs.Mounts.{IsMounted, MountedGroup}
use Rattle.group_engine.specs.Own.{KeepsGroup}
use Rattle.group_engine.specs.declared.access.Access.TheVariants as access

-- the record marked gone
abbrev pub gone_of : Status → Status
gone_of r = record r { gone = true }

-- The record was written marked gone: but for the disks of a set that failed, each attached disk of the record's sets shows it, and
-- these are a majority of each.
pub record IsGone (old new : MountedGroup) (s t : BayState) : Type 0 where
  pub failed : ℕ
  pub written : HasWritten old.register (gone_of old.register.value) (Ok failed) new.register s t

-- Why a group isn't dropped. It takes no memory, so that want of memory is said of a group alone that was closed before.
abbrev pub GoneCause : MountedGroup → MountedGroup → BayState → BayState → Refusal → Type 0
GoneCause old new s t (cause.Dismounted by) = DismountCause old new s t by
GoneCause old new s t cause.NoMemory = old.access ≡ access.Closed
GoneCause old new s t _ = ⊥

-- The dropping of a group that takes calls.
pub record EndsGroup (old : MountedGroup) (answer : Result (Unit {0}) Refusal) (new : MountedGroup) (s t : BayState) : Type 0 where
  pub keeps : KeepsGroup old new s t
  pub closed : IsMounted new → ⊥
  pub gone : OnOk answer (IsGone old new s t)
  pub cause : IfErr answer (GoneCause old new s t)
