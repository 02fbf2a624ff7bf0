-- Disks that come back.
use Rattle.std.proofs.Common.{◌≡◌, ⊎_elim, ℕ, ◌<◌, ◌≤◌, List, length, Option, refl, sym, subst, ◌∙◌, Result, Ok, Err}
use Rattle.std.specs.Prelude.{IfErr}
use Rattle.std.proofs.lemmas.Bool.{cases_lt}
use Rattle.std.proofs.lemmas.List.{get_or_past}
use Rattle.bay.specs.Image.{Image}
use Rattle.bay.specs.Moments.{Runs}
use Rattle.bay.specs.State.{BayState}
use Rattle.refusal_lines.specs.declared.refusal.DiskRef.TheVariants as disk
use Rattle.refusal_lines.specs.declared.refusal.Refusal.{Refusal}
use Rattle.refusal_lines.specs.declared.refusal.Refusal.TheVariants as refusal
use Rattle.asm_formats.specs.Header.{Header}
use Rattle.disk_images.specs.Looks.{AreLooked, IsLooked}
use Rattle.disk_images.specs.declared.looking.Looked.{Looked}
use Rattle.disk_images.specs.declared.looking.Looked.TheVariants.{Absent, Read}
use Rattle.new_groups.proofs.group_recovery.Told.{rose_before}
use Rattle.file_extents.specs.group_engine.Commits.{StatusCause}
use Rattle.file_extents.specs.group_engine.Making.{IsShut}
use Rattle.file_extents.specs.group_engine.Mounts.{IsMounted, MountedGroup}
use Rattle.file_extents.specs.group_engine.Pending.{GoesOn}
use Rattle.file_extents.specs.group_engine.declared.access.Access.{Access}
use Rattle.file_extents.specs.group_engine.declared.access.Access.TheVariants as access
use Rattle.disk_joining.specs.Causes.{IsLostBy, OnlineCause, StepCause}
use Rattle.disk_joining.specs.Causes.IsLostBy.{has_failed, was_lost}
use Rattle.disk_joining.specs.Causes.OnlineCause.{by_record}
use Rattle.disk_joining.specs.Returning.{AreShown}
use Rattle.disk_joining.specs.Taking.{TakesIn}
use Rattle.disk_joining.proofs.Takings.{keeps_taken, step_cause, taken_on}

-- ---- what looks have shown

pub shown_are : (looked : List Looked) (s t : BayState) → AreLooked looked s t → AreShown looked t
shown_are looked s t are slot size is = ⊎_elim
    (λ (inside : slot < length looked). (subst (λ (x : Looked). IsLooked slot x s t) is.1 (are.each slot inside)).attached)
    (λ (past : length looked ≤ slot). absurd (not_read size is.0 (sym (get_or_past looked slot Absent past) ∙ is.1)))
    (cases_lt slot (length looked))
  where
    not_read : (size : ℕ) (header : Option Header) → Absent ≡ Read size header → ⊥
    not_read size header e = absurd cc

-- ---- causes

lost_before : (old new : MountedGroup) {s m : BayState} (t : BayState) {slots : ℕ → Type 0} {step : Image → Image → Type 0} → Runs slots step s m → (d : ℕ) → IsLostBy old new m t d → IsLostBy old new s t d
lost_before old new {s} {m} t run d (was_lost was) = was_lost was
lost_before old new {s} {m} t run d (has_failed slot at rose) = has_failed slot at (rose_before (s.faults slot) (m.faults slot) (t.faults slot) (run.faults slot) rose)

pub step_before : (old new : MountedGroup) {s m : BayState} (t : BayState) {slots : ℕ → Type 0} {step : Image → Image → Type 0} → Runs slots step s m → (e : Refusal) → StepCause old new m t e → StepCause old new s t e
step_before old new {s} {m} t run (refusal.Dismounted (disk.Number d)) why = lost_before old new t run d why
step_before old new {s} {m} t run (refusal.Dismounted (disk.Spelt text)) why = absurd why
step_before old new {s} {m} t run refusal.NoMemory why = tt
step_before old new {s} {m} t run other why = absurd why

shut_by : (a : Access) (m n : MountedGroup) (s t : BayState) (e : Refusal) → m.access ≡ a → IsShut a e → StepCause m n s t e
shut_by access.Mounted m n s t e is why = absurd why
shut_by (access.Dismounted d) m n s t e is why = subst (StepCause m n s t) (sym why) (was_lost is)
shut_by access.Closed m n s t e is why = subst (StepCause m n s t) (sym why) tt

pub shut_cause : (m n : MountedGroup) (s t : BayState) (e : Refusal) → IsShut m.access e → StepCause m n s t e
shut_cause m n s t e why = shut_by m.access m n s t e refl why

-- ---- the record comes last

pub recorded : (held : List ℕ) {a b c : MountedGroup} {s m t : BayState} {r : Result (Unit {0}) Refusal} → TakesIn held a b s m → GoesOn b r c m t → TakesIn held a c s t
recorded held {a} {b} {c} {s} {m} {t} {r} before goes = taken_on held before (keeps_taken held before.own goes.keeps)

pub record_causes : (held : List ℕ) {a b c : MountedGroup} {s m t : BayState} (r : Result (Unit {0}) Refusal) → TakesIn held a b s m → IsMounted b → GoesOn b r c m t → IfErr r (StepCause a c s t)
record_causes held {a} {b} {c} {s} {m} {t} r before mounted goes = each r goes.cause
  where
    each : (x : Result (Unit {0}) Refusal) → IfErr x (StatusCause b c m t) → IfErr x (StepCause a c s t)
    each (Ok done) why = tt
    each (Err e) why = step_cause held before mounted goes.keeps e why

-- the disks come back after looks
pub causes_later : (slots : ℕ) (held : List ℕ) (old new : MountedGroup) {s m : BayState} (disks : ℕ) (t : BayState) {on : ℕ → Type 0} {step : Image → Image → Type 0} (r : Result (Unit {0}) Refusal) → Runs on step s m
    → IfErr r (StepCause old new m t) → IfErr r (OnlineCause slots held old disks new s t)
causes_later slots held old new {s} {m} disks t (Ok done) run why = tt
causes_later slots held old new {s} {m} disks t (Err e) run why = by_record (step_before old new t run e why)
