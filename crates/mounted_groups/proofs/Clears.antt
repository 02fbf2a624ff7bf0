-- What a mount ends of what a stop left undone, and by which faults it can't.
use Rattle.std.proofs.Common.{◌≡◌, ⊎_elim, ℕ, ◌≤◌, List, sym, ap, subst, ◌∙◌, Option, Some, arith}
use Rattle.std.proofs.lemmas.Option.{same_Some}
use Rattle.bay.specs.Counts.{Rose}
use Rattle.bay.specs.State.{BayState}
use Rattle.refusal_lines.specs.declared.refusal.DiskRef.{DiskRef}
use Rattle.refusal_lines.specs.declared.refusal.DiskRef.TheVariants as disk
use Rattle.refusal_lines.specs.declared.refusal.Refusal.{Refusal}
use Rattle.refusal_lines.specs.declared.refusal.Refusal.TheVariants as refusal
use Rattle.group_engine.specs.Commits.{DismountCause, StatusCause}
use Rattle.group_engine.specs.Mounts.{IsMounted, MountedGroup, RoseOnDisk, slot_at}
use Rattle.group_engine.specs.Own.{KeepsGroup}
use Rattle.group_engine.specs.declared.access.Access.{Access}
use Rattle.group_engine.specs.declared.access.Access.TheVariants as access
use Rattle.group_engine.specs.declared.attached.Attached.{Attached}
use Rattle.mounted_groups.specs.Clearing.{IsClearCause, IsFoundSlot, IsLostCause, IsRefusalOf}
use Rattle.group_recovery.specs.declared.error.MountError.{MountError}
use Rattle.group_recovery.specs.declared.quorum.Quorate.{Quorate}
use Rattle.group_recovery.specs.declared.error.MountError.TheVariants as error

-- a group that takes calls isn't dismounted
not_dismounted : (a : Access) (d : ℕ) → a ≡ access.Mounted → a ≡ access.Dismounted d → ⊥
not_dismounted a d mounted dismounted = absurd cc

pub dismount_clear : (old new : MountedGroup) (s t : BayState) (by : DiskRef) → IsMounted old → DismountCause old new s t by → IsClearCause old s t (refusal.Dismounted by)
dismount_clear old new s t (disk.Number d) mounted cause = ⊎_elim
    (λ before. absurd (not_dismounted old.access d mounted before))
    (λ now. (now.1.slot, now.1.at, now.1.rose)) cause
dismount_clear old new s t (disk.Spelt text) mounted cause = absurd cause

pub status_clear : (old new : MountedGroup) (s t : BayState) (given : Refusal) → IsMounted old → StatusCause old new s t given → IsClearCause old s t given
status_clear old new s t (refusal.Dismounted by) mounted cause = dismount_clear old new s t by mounted cause
status_clear old new s t refusal.NoMemory mounted cause = tt
status_clear old new s t other mounted cause = absurd cause

-- a later fault of the same group, and an earlier start
failed_on : (a b : MountedGroup) (d : ℕ) (s m t : BayState) → KeepsGroup a b s m → RoseOnDisk b d m t → RoseOnDisk a d s t
failed_on a b d s m t keeps failed = (
  failed.0,
  sym (ap (λ (l : List (Option Attached)). slot_at l d) keeps.same.disks) ∙ failed.1,
  omega (arith, failed.2, keeps.runs.faults failed.0),
)

pub clear_on : (a b : MountedGroup) (s m t : BayState) (given : Refusal) → KeepsGroup a b s m → IsClearCause b m t given → IsClearCause a s t given
clear_on a b s m t (refusal.Dismounted (disk.Number d)) keeps cause = failed_on a b d s m t keeps cause
clear_on a b s m t (refusal.Dismounted (disk.Spelt text)) keeps cause = absurd cause
clear_on a b s m t other keeps cause = tt

-- the refusal of a mount has its cause
pub lost_by : (q : Quorate) (old new : MountedGroup) (s m t : BayState) (given : Refusal) (e : MountError) → ((d slot : ℕ) → slot_at old.disks d ≡ Some slot → IsFoundSlot q slot)
    → KeepsGroup old new m t → ((slot : ℕ) → s.faults slot ≤ m.faults slot) → IsClearCause old m t given → IsRefusalOf new given e → IsLostCause q s t e
lost_by q old new s m t given (error.Dead slot name) found keeps later cause of =
    let failed : RoseOnDisk old of.0 m t = subst (IsClearCause old m t) of.1 cause in
    let is : slot_at old.disks of.0 ≡ Some slot = sym (ap (λ (l : List (Option Attached)). slot_at l of.0) keeps.same.disks) ∙ of.2 in
    let at : failed.0 ≡ slot = same_Some failed.0 slot (sym failed.1 ∙ is) in
    (subst (λ (k : ℕ). Rose (s.faults k) (t.faults k)) at (omega (arith, failed.2, later failed.0)), found of.0 slot is)
lost_by q old new s m t given error.NoMemory found keeps later cause of = tt
lost_by q old new s m t given other found keeps later cause of = absurd of
