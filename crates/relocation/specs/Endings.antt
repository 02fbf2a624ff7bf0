-- How a rebalance ends.
use Rattle.std.specs.Prelude.{◌≡◌, ◌==◌, ℕ, Bool, false, IfErr, OnOk, Option, Some, None, Result}
use Rattle.bay.specs.Image.{ChangesOnly}
use Rattle.bay.specs.Moments.{Runs}
use Rattle.bay.specs.State.{BayState, IsSlot, KeepsAttached}
use Rattle.refusal_lines.specs.declared.refusal.Refusal.{Refusal}
use Rattle.resync.specs.group_engine.Members.{LetsGo, LettingCause}
use Rattle.resync.specs.group_engine.Mounts.{IsMounted, MountedGroup, Takes}
use Rattle.resync.specs.group_engine.declared.attached.Attached.{Attached}

-- the attached disk is in the slot
abbrev pub is_disk_in_slot : ℕ → Option Attached → Bool
is_disk_in_slot slot None = false
is_disk_in_slot slot (Some a) = a.slot == slot

-- No disk changes but that of one slot, and the group takes the next call.
pub record ClosesOn (m : MountedGroup) (slot : ℕ) (s t : BayState) : Type 0 where
  pub attached : KeepsAttached s t
  pub runs : Runs (IsSlot slot) (ChangesOnly (λ k j. IsSlot slot k)) s t
  pub takes : Takes m t

-- What the end of a rebalance does, or a part of it: some disks may leave.
pub record FinishesRebalance (old : MountedGroup) (answer : Result (Unit {0}) Refusal) (new : MountedGroup) (s t : BayState) : Type 0 where
  pub lets : LetsGo old new s t
  pub mounted : OnOk answer (IsMounted new)
  pub cause : IfErr answer (LettingCause old new s t)
