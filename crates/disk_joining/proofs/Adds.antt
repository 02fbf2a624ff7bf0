-- Steps by which new disks join a group.
use Rattle.std.proofs.Common.{◌≡◌, ◌⊎◌, ⊎_elim, ℕ, ◌≤◌, true, List, None, sym, ap, subst, Result, Ok, Err}
use Rattle.std.specs.Prelude.{IfErr, OnErr, OnOk}
use Rattle.bay.specs.Counts.{Rose}
use Rattle.bay.specs.Image.{Image}
use Rattle.bay.specs.Moments.{Runs}
use Rattle.bay.specs.State.{BayState}
use Rattle.refusal_lines.specs.declared.refusal.DiskRef.TheVariants as disk
use Rattle.refusal_lines.specs.declared.refusal.Refusal.{Refusal}
use Rattle.refusal_lines.specs.declared.refusal.Refusal.TheVariants as refusal
use Rattle.asm_group.specs.Names.{Bytes}
use Rattle.asm_world.specs.NewDisks.{PlannedDisk}
use Rattle.asm_world.specs.Statement.{NewFailgroup}
use Rattle.file_extents.specs.catalog.Plans.{MayAdd}
use Rattle.file_extents.specs.catalog_tables.Tables.{Tables}
use Rattle.file_extents.specs.Closing.{or_shut}
use Rattle.new_groups.proofs.group_recovery.Told.{rose_before, rose_later}
use Rattle.new_groups.proofs.mounted_groups.Staying.{stays_keeps}
use Rattle.file_extents.specs.group_engine.Commits.{StatusCause}
use Rattle.file_extents.specs.group_engine.Mounts.{IsMounted, MountedGroup}
use Rattle.file_extents.specs.group_engine.Pending.{GoesOn}
use Rattle.file_extents.proofs.group_engine.Causes.{not_mounted}
use Rattle.new_groups.specs.group_recovery.declared.finding.Headed.{Headed}
use Rattle.new_groups.specs.declared.asked.Known.{Known}
use Rattle.disk_joining.specs.AddCauses.{AddCause, SomeFailed, IsWriteFault, JoinCause}
use Rattle.disk_joining.specs.AddCauses.AddCause.{by_step}
use Rattle.disk_joining.specs.Causes.{IsLostBy, StepCause}
use Rattle.disk_joining.specs.Causes.IsLostBy.{has_failed, was_lost}
use Rattle.disk_joining.specs.Joiners.{AreJoiners, AreEntered, HaveJoined, JoinStep, CanJoin, ShowHeaders, are_asked}
use Rattle.disk_joining.specs.Taking.{TakesIn}
use Rattle.disk_joining.specs.declared.joining.Joining.{Joining}
use Rattle.disk_joining.proofs.Joiners.{joiners_stay}
use Rattle.disk_joining.proofs.Onlines.{recorded, step_before}
use Rattle.disk_joining.proofs.Shutting.{or_shut_taken}
use Rattle.disk_joining.proofs.Takings.{step_cause, taken_on}

-- ---- disks that failed

pub failed_before : {s m : BayState} (t : BayState) {slots : ℕ → Type 0} {step : Image → Image → Type 0} → Runs slots step s m → SomeFailed m t → SomeFailed s t
failed_before {s} {m} t run failed = (failed.0, rose_before (s.faults failed.0) (m.faults failed.0) (t.faults failed.0) (run.faults failed.0) failed.1)

pub failed_later : (s : BayState) {m t : BayState} {slots : ℕ → Type 0} {step : Image → Image → Type 0} → Runs slots step m t → SomeFailed s m → SomeFailed s t
failed_later s {m} {t} run failed = (failed.0, rose_later (s.faults failed.0) (m.faults failed.0) (t.faults failed.0) (run.faults failed.0) failed.1)

-- a call on a disk failed, after others
pub failed_at : {T E : Type 0} (slot : ℕ) (answer : Result T E) (s m t : BayState) → s.faults slot ≤ m.faults slot → OnErr answer (Rose (m.faults slot) (t.faults slot)) → OnErr answer (SomeFailed s t)
failed_at slot (Ok done) s m t le why = tt
failed_at slot (Err e) s m t le why = (slot, rose_before (s.faults slot) (m.faults slot) (t.faults slot) le why)

-- ---- causes

pub step_joins : (a c : MountedGroup) (s t : BayState) (e : Refusal) → StepCause a c s t e → JoinCause a c s t e
step_joins a c s t (refusal.WriteFault (disk.Spelt text)) why = absurd why
step_joins a c s t (refusal.WriteFault (disk.Number d)) why = absurd why
step_joins a c s t other why = why

-- the disk that is spelt failed
pub fault_joins : (a c : MountedGroup) (s t : BayState) (e : Refusal) → SomeFailed s t → IsWriteFault e → JoinCause a c s t e
fault_joins a c s t (refusal.WriteFault (disk.Spelt text)) failed is = failed
fault_joins a c s t (refusal.WriteFault (disk.Number d)) failed is = absurd is
fault_joins a c s t refusal.NoMemory failed is = tt
fault_joins a c s t other failed is = absurd is

-- what was done was given back, once a disk had failed
pub given_back : (a c : MountedGroup) {s m t : BayState} {slots : ℕ → Type 0} {step : Image → Image → Type 0} {more : ℕ → Type 0} {later : Image → Image → Type 0} → Runs slots step s m → Runs more later m t → SomeFailed s m → (e : Refusal)
    → IsWriteFault e ⊎ StepCause a c m t e → JoinCause a c s t e
given_back a c {s} {m} {t} first second failed e why = ⊎_elim
    (λ is. fault_joins a c s t e (failed_later s second failed) is)
    (λ step. step_joins a c s t e (step_before a c t first e step))
    why

-- of a later step, where the group took calls at its begin
later_lost : {a b c : MountedGroup} {s m : BayState} (t : BayState) {slots : ℕ → Type 0} {step : Image → Image → Type 0} → Runs slots step s m → IsMounted b → (d : ℕ) → IsLostBy b c m t d → IsLostBy a c s t d
later_lost {a} {b} {c} {s} {m} t run mounted d (was_lost was) = absurd (not_mounted b d was mounted)
later_lost {a} {b} {c} {s} {m} t run mounted d (has_failed slot at rose) = has_failed slot at (rose_before (s.faults slot) (m.faults slot) (t.faults slot) (run.faults slot) rose)

pub later_cause : (a b c : MountedGroup) {s m : BayState} (t : BayState) {slots : ℕ → Type 0} {step : Image → Image → Type 0} → Runs slots step s m → IsMounted b → (e : Refusal) → JoinCause b c m t e → JoinCause a c s t e
later_cause a b c {s} {m} t run mounted (refusal.Dismounted (disk.Number d)) why = later_lost t run mounted d why
later_cause a b c {s} {m} t run mounted (refusal.Dismounted (disk.Spelt text)) why = absurd why
later_cause a b c {s} {m} t run mounted (refusal.WriteFault (disk.Spelt text)) why = failed_before t run why
later_cause a b c {s} {m} t run mounted (refusal.WriteFault (disk.Number d)) why = absurd why
later_cause a b c {s} {m} t run mounted refusal.NoMemory why = tt
later_cause a b c {s} {m} t run mounted other why = absurd why

-- ---- steps

pub joins_goes : (held : List ℕ) {a b c : MountedGroup} {s m t : BayState} (r : Result (Unit {0}) Refusal) → TakesIn held a b s m → IsMounted b → GoesOn b r c m t → JoinStep held a r c s t
joins_goes held {a} {b} {c} {s} {m} {t} r before mounted goes = record { taken = recorded held before goes; mounted = goes.mounted; cause = each r goes.cause }
  where
    each : (x : Result (Unit {0}) Refusal) → IfErr x (StatusCause b c m t) → IfErr x (JoinCause a c s t)
    each (Ok done) why = tt
    each (Err e) why = step_joins a c s t e (step_cause held before mounted goes.keeps e why)

pub joins_on : (held : List ℕ) {a b c : MountedGroup} {s m t : BayState} (r : Result (Unit {0}) Refusal) → TakesIn held a b s m → IsMounted b → JoinStep held b r c m t → JoinStep held a r c s t
joins_on held {a} {b} {c} {s} {m} {t} r before mounted joins = record { taken = taken_on held before joins.taken; mounted = joins.mounted; cause = each r joins.cause }
  where
    each : (x : Result (Unit {0}) Refusal) → IfErr x (JoinCause b c m t) → IfErr x (JoinCause a c s t)
    each (Ok done) why = tt
    each (Err e) why = later_cause a b c t before.spares mounted e why

pub joins_shut : (held : List ℕ) {a b : MountedGroup} {s t : BayState} (r : Result (Unit {0}) Refusal) → JoinStep held a r b s t → JoinStep held a r (or_shut r b) s t
joins_shut held (Ok done) joins = joins
joins_shut held (Err refusal.NoMemory) joins = record { taken = or_shut_taken held (Err refusal.NoMemory) joins.taken; mounted = tt; cause = tt }
joins_shut held (Err other) joins = joins

pub join_adds : (paths : List Bytes) (groups : List NewFailgroup) (known : Known) (a c : MountedGroup) {s m : BayState} (t : BayState) {slots : ℕ → Type 0} {step : Image → Image → Type 0} → Runs slots step s m → IsMounted a
    → (r : Result (Unit {0}) Refusal) → IfErr r (JoinCause a c m t) → IfErr r (AddCause paths groups known a c s t)
join_adds paths groups known a c {s} {m} t run mounted (Ok done) why = tt
join_adds paths groups known a c {s} {m} t run mounted (Err e) why = by_step (later_cause a a c t run mounted e why)

-- ---- entries

pub shut_entries : (hs : List Headed) (r : Result (Unit {0}) Refusal) (b : MountedGroup) → OnOk r (AreEntered b.register.value hs) → OnOk r (AreEntered (or_shut r b).register.value hs)
shut_entries hs (Ok done) b is = is
shut_entries hs (Err e) b is = tt

pub joined_all : (asked : List PlannedDisk) (numbers : List ℕ) (hs : List Headed) (m : MountedGroup) (t : BayState) (r : Result (Unit {0}) Refusal) → are_asked hs asked numbers ≡ true → OnOk r (ShowHeaders hs t) → OnOk r (AreEntered m.register.value hs)
    → OnOk r (HaveJoined asked numbers m t)
joined_all asked numbers hs m t (Ok done) given headers entries = record { disks = hs; asked_for = given; headers = headers; entries = entries }
joined_all asked numbers hs m t (Err e) given headers entries = tt

-- ---- what joins, over the group's own calls

pub goes_joiners : (held : List ℕ) {m n : MountedGroup} (hs : List Headed) {s t : BayState} {r : Result (Unit {0}) Refusal} → GoesOn m r n s t → AreJoiners held m hs s → AreJoiners held n hs t
goes_joiners held {m} {n} hs {s} {t} {r} goes joiners = joiners_stay held hs goes.keeps.same.members goes.keeps.same.shape (stays_keeps goes.keeps.attached) joiners

pub goes_may : (held : List ℕ) {m n : MountedGroup} (j : Joining) {s t : BayState} {r : Result (Unit {0}) Refusal} → GoesOn m r n s t → n.catalog.tables ≡ m.catalog.tables → CanJoin held m j s → CanJoin held n j t
goes_may held {m} {n} j {s} {t} {r} goes same may = record {
  disks = goes_joiners held j.disks.items goes may.disks;
  apart = may.apart;
  records = subst (λ (u : Tables). MayAdd u j.records.items) (sym same) may.records;
}

pub flight_may : (held : List ℕ) (m n : MountedGroup) (j : Joining) (s : BayState) → n ≡ (record m { flight = None }) → CanJoin held m j s → CanJoin held n j s
flight_may held m n j s is may = record {
  disks = joiners_stay held j.disks.items (ap (λ (x : MountedGroup). x.register.members) is) (ap (λ (x : MountedGroup). x.catalog.shape) is) (record { stays = λ slot size at. at }) may.disks;
  apart = may.apart;
  records = subst (λ (u : Tables). MayAdd u j.records.items) (ap (λ (x : MountedGroup). x.catalog.tables) (sym is)) may.records;
}
