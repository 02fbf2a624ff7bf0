-- What a mount does until the record of its group is written anew.
use Rattle.std.specs.Prelude.{ℕ, ◌<◌, IfErr, IfOk, List, Result}
use Rattle.bay.specs.State.{BayState}
use Rattle.asm_group.specs.Names.{Bytes}
use Rattle.group_engine.specs.Frames.{StaysAttached}
use Rattle.group_engine.specs.Mounts.{IsOwn}
use Rattle.group_recovery.specs.declared.error.MountError.{MountError}
use Rattle.group_recovery.specs.declared.quorum.MountOption.{MountOption}
use Rattle.mounted_groups.specs.Holding.{SparesHeld}
use Rattle.mounted_groups.specs.Leaving.{LeavesClaimed, LeavesRefused, MountsOne}
use Rattle.mounted_groups.specs.Mounting.{IsMountCause, IsMountedBy, IsTakenOver}
use Rattle.mounted_groups.specs.declared.mount.Taken.{Taken}

-- The group of a name is found on n slots and its record written anew, with this second.
pub record TakesOver {B : Type 0} (state : B → BayState) (name : Bytes) (n : ℕ) (held : List ℕ) (option : MountOption) (now : ℕ) (result : Result Taken MountError)
    (s t : BayState) : Type 0 where
  -- what was attached stays so, and so do the disks in slots that others hold
  pub attached : StaysAttached s t
  pub spares : SparesHeld held n s t
  -- at Ok it takes calls, on disks of these slots
  pub mounted : IfOk result (λ taken. IsMountedBy name held taken.group t)
  pub inside : IfOk result (λ taken. (slot : ℕ) → IsOwn taken.group slot → slot < n)
  pub taken : IfOk result (λ taken. IsTakenOver state name n held option now taken.group taken.named s t)
  -- one of these groups is mounted on the disks as they are
  pub mounts : IfOk result (λ taken. MountsOne state name n held option taken.group s t)
  pub cause : IfErr result (IsMountCause state name n held option s t)
  -- refused, each image of each moment stands for groups that it might stand for before
  pub leaves : IfErr result (λ _. LeavesClaimed state name n held option s t)
  pub refused : IfErr result (LeavesRefused state name n held option s t)
