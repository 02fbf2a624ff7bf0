-- A disk is taken out of a mounted group.
use Rattle.std.proofs.Common.{◌≡◌, inl, ℕ, List, Option, None, refl, sym, ap, subst, ◌∙◌, Result, Ok, Err}
use Rattle.std.specs.Prelude.{IfErr, OnOk}
use Rattle.bay.specs.State.{BayState}
use Rattle.refusal_lines.specs.declared.refusal.Refusal.{Refusal}
use Rattle.refusal_lines.specs.declared.refusal.Refusal.TheVariants as cause
use Rattle.asm_formats.specs.Status.{entry_of}
use Rattle.group_engine.specs.Commits.{StatusCause}
use Rattle.group_engine.specs.Making.{IsShut}
use Rattle.group_engine.specs.Members.{LeavesOne, LetsGo, LettingCause, without_attached_disk}
use Rattle.group_engine.specs.Mounts.{IsMounted, IsWhole, MountedGroup, Takes, slot_at}
use Rattle.group_engine.specs.Own.{KeepsGroup}
use Rattle.group_engine.specs.Pending.{GoesOn}
use Rattle.group_engine.specs.declared.access.Access.{Access}
use Rattle.group_engine.specs.declared.access.Access.TheVariants.{Mounted, Dismounted, Closed}
use Rattle.group_engine.specs.declared.attached.Attached.{Attached}
use Rattle.group_engine.proofs.Causes.{nothing_kept}
use Rattle.group_engine.proofs.Members.{cause_lets, detached_lets, keeps_lets, lets_join, letting_on, none_left}

-- the record was written, the disk is attached no more, and then its disk record goes
module _ (a b c : MountedGroup) (s t u : BayState) (d : ℕ) (keeps : KeepsGroup a b s t) (mounted : IsMounted b) (gone : entry_of b.register.value.entries d ≡ None) where
  takes : Takes b t
  takes m = (keeps.whole m, keeps.ready m)

  abbrev left : MountedGroup
  left = without_attached_disk b d

  lets_left : LetsGo a left s t
  lets_left = lets_join (keeps_lets keeps) (detached_lets b d t gone takes)

  left_done : (r : Result (Unit {0}) Refusal) → GoesOn left r c t u → LeavesOne a d r c s u
  left_done r goes = record { lets = lets_join lets_left (keeps_lets goes.keeps); mounted = goes.mounted; gone = none r; cause = why r goes.cause }
    where
      none : (x : Result (Unit {0}) Refusal) → OnOk x (slot_at c.disks d ≡ None)
      none (Ok done) = ap (λ (l : List (Option Attached)). slot_at l d) goes.keeps.same.disks ∙ none_left b d t
      none (Err e) = tt

      why : (x : Result (Unit {0}) Refusal) → IfErr x (StatusCause left c t u) → IfErr x (LettingCause a c s u)
      why (Ok done) is = tt
      why (Err e) is = letting_on a left c s t u lets_left mounted e (cause_lets left c t u (lets_left.whole mounted) goes.keeps e is)

  pub leaves_done : (now : MountedGroup) → now ≡ left → (r : Result (Unit {0}) Refusal) → GoesOn now r c t u → LeavesOne a d r c s u
  leaves_done now is r goes = left_done r (subst (λ (v : MountedGroup). GoesOn v r c t u) is goes)

-- the record wasn't written
pub leaves_refused : (a b : MountedGroup) (s t : BayState) (d : ℕ) (refusal : Refusal) → IsWhole a → KeepsGroup a b s t → StatusCause a b s t refusal → LeavesOne a d (Err refusal) b s t
leaves_refused a b s t d refusal whole keeps why = record { lets = keeps_lets keeps; mounted = tt; gone = tt; cause = cause_lets a b s t whole keeps refusal why }

-- nothing was tried
pub leaves_without : (a b : MountedGroup) (s t : BayState) (d : ℕ) → KeepsGroup a b s t → LeavesOne a d (Err cause.NoMemory) b s t
leaves_without a b s t d keeps = record { lets = keeps_lets keeps; mounted = tt; gone = tt; cause = tt }

-- after a call that keeps the group
pub leaves_on : (a b c : MountedGroup) (s t u : BayState) (d : ℕ) (r : Result (Unit {0}) Refusal) → KeepsGroup a b s t → IsMounted b → LeavesOne b d r c t u → LeavesOne a d r c s u
leaves_on a b c s t u d r keeps mounted one = record { lets = lets_join (keeps_lets keeps) one.lets; mounted = one.mounted; gone = one.gone; cause = why r one.cause }
  where
    why : (x : Result (Unit {0}) Refusal) → IfErr x (LettingCause b c t u) → IfErr x (LettingCause a c s u)
    why (Ok done) is = tt
    why (Err e) is = letting_on a b c s t u (keeps_lets keeps) mounted e is

-- the group takes no calls
shut_by : (m : MountedGroup) (s : BayState) (refusal : Refusal) (x : Access) → m.access ≡ x → IsShut x refusal → LettingCause m m s s refusal
shut_by m s refusal Mounted is shut = absurd shut
shut_by m s refusal (Dismounted d) is shut = subst (λ (e : Refusal). LettingCause m m s s e) (sym shut) (inl is)
shut_by m s refusal Closed is shut = subst (λ (e : Refusal). LettingCause m m s s e) (sym shut) tt

pub leaves_shut : (m : MountedGroup) (s : BayState) (d : ℕ) (refusal : Refusal) → Takes m s → IsShut m.access refusal → LeavesOne m d (Err refusal) m s s
leaves_shut m s d refusal takes shut = record {
  lets = keeps_lets (nothing_kept m s (λ mounted. (takes mounted).0) (λ mounted. (takes mounted).1));
  mounted = tt;
  gone = tt;
  cause = shut_by m s refusal m.access refl shut;
}
