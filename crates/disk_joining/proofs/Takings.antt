-- What is kept over calls that may attach disks to a group.
use Rattle.std.proofs.Common.{◌≡◌, ⊎_elim, ℕ, List, get_or, Option, None, refl, sym, ap, subst, ◌∙◌, Result, Err}
use Rattle.std.specs.Prelude.{⊤}
use Rattle.bay.specs.Image.{Image}
use Rattle.bay.specs.Moments.{Runs}
use Rattle.bay.specs.State.{BayState}
use Rattle.bay.proofs.Calls.{goes_on, on_more, started, stops, widened}
use Rattle.bay.proofs.Images.{same-refl}
use Rattle.refusal_lines.specs.declared.refusal.DiskRef.TheVariants as disk
use Rattle.refusal_lines.specs.declared.refusal.Refusal.{Refusal}
use Rattle.refusal_lines.specs.declared.refusal.Refusal.TheVariants as refusal
use Rattle.disk_images.specs.Looks.{Looks}
use Rattle.new_groups.specs.mounted_groups.Holding.{SameHeld}
use Rattle.new_groups.proofs.mounted_groups.Spared.{change_held, held_trans, same_held}
use Rattle.new_groups.proofs.mounted_groups.Staying.{stays_keeps, stays_refl, stays_trans}
use Rattle.new_groups.proofs.group_recovery.Told.{rose_before}
use Rattle.file_extents.specs.group_engine.Commits.{StatusCause}
use Rattle.file_extents.specs.group_engine.Frames.{SparesDisks, StaysAttached}
use Rattle.file_extents.specs.group_engine.Mounts.{IsMounted, IsOwn, MountedGroup, Takes, slot_at}
use Rattle.file_extents.specs.group_engine.Own.{KeepsGroup}
use Rattle.file_extents.specs.group_engine.Pending.{GoesOn}
use Rattle.file_extents.specs.group_engine.declared.attached.Attached.{Attached}
use Rattle.file_extents.proofs.group_engine.Causes.{gives_up, not_mounted, nothing_kept}
use Rattle.file_extents.proofs.group_engine.Elsewhere.{ready_elsewhere}
use Rattle.status_register.specs.declared.member.Member.{Member}
use Rattle.disk_joining.specs.Causes.{StepCause}
use Rattle.disk_joining.specs.Causes.IsLostBy.{has_failed}
use Rattle.disk_joining.specs.Taking.{IsApart, TakesIn}

-- ---- runs that leave what is held

module _ (held : List ℕ) where
  pub spares_none : (s : BayState) → Runs (λ slot. ⊤) (SameHeld held) s s
  spares_none s = started (λ x. same_held held x x (same-refl x))

  pub spares_on : {s m t : BayState} → Runs (λ slot. ⊤) (SameHeld held) s m → Runs (λ slot. ⊤) (SameHeld held) m t → Runs (λ slot. ⊤) (SameHeld held) s t
  spares_on {s} {m} {t} one two = goes_on (held_trans held) one (stops one) two

  pub spares_by : {s t : BayState} {some : ℕ → Type 0} {step : Image → Image → Type 0} → ((x y : Image) → step x y → SameHeld held x y) → Runs some step s t → Runs (λ slot. ⊤) (SameHeld held) s t
  spares_by {s} {t} {some} {step} spares run = on_more (λ slot is. tt) (widened spares run)

-- ---- the clause

-- nothing was done
pub nothing_taken : (held : List ℕ) (m : MountedGroup) (s : BayState) → Takes m s → IsApart held m → TakesIn held m m s s
nothing_taken held m s takes apart = record {
  name = refl;
  id = refl;
  shape = refl;
  own = apart;
  attached = stays_refl s;
  spares = spares_none held s;
  whole = λ mounted. (takes mounted).0;
  ready = λ mounted. (takes mounted).1;
}

pub taken_on : (held : List ℕ) {a b c : MountedGroup} {s t u : BayState} → TakesIn held a b s t → TakesIn held b c t u → TakesIn held a c s u
taken_on held {a} {b} {c} {s} {t} {u} one two = record {
  name = two.name ∙ one.name;
  id = two.id ∙ one.id;
  shape = two.shape ∙ one.shape;
  own = two.own;
  attached = stays_trans one.attached two.attached;
  spares = spares_on held one.spares two.spares;
  whole = two.whole;
  ready = two.ready;
}

pub takes_then : {held : List ℕ} {a b : MountedGroup} {s t : BayState} → TakesIn held a b s t → Takes b t
takes_then {held} {a} {b} {s} {t} taken mounted = (taken.whole mounted, taken.ready mounted)

-- a call on the group's own disks
pub keeps_taken : (held : List ℕ) {a b : MountedGroup} {s t : BayState} → IsApart held a → KeepsGroup a b s t → TakesIn held a b s t
keeps_taken held {a} {b} {s} {t} apart keeps = record {
  name = keeps.same.name;
  id = keeps.same.id;
  shape = keeps.same.shape;
  own = λ slot own. apart slot (own.0, own.1, ap (λ (l : List (Option Member)). get_or l own.0 None) (sym keeps.same.members) ∙ own.2, own.3);
  attached = stays_keeps keeps.attached;
  spares = spares_by held (change_held held (IsOwn a) apart) keeps.runs;
  whole = keeps.whole;
  ready = keeps.ready;
}

pub goes_takes : {a b : MountedGroup} {s t : BayState} {r : Result (Unit {0}) Refusal} → GoesOn a r b s t → Takes b t
goes_takes {a} {b} {s} {t} {r} goes mounted = (goes.keeps.whole mounted, goes.keeps.ready mounted)

-- the move that is on its way is given up
pub flight_taken : (held : List ℕ) (m : MountedGroup) (s : BayState) → Takes m s → IsApart held m → TakesIn held m (record m { flight = None }) s s
flight_taken held m s takes apart = keeps_taken held apart (gives_up m s takes)

-- calls that change neither disks that are held nor the group's own, and leave what is attached
pub elsewhere_taken : (held : List ℕ) (m : MountedGroup) {s t : BayState} {on : ℕ → Type 0} {step : Image → Image → Type 0} → Takes m s → IsApart held m → StaysAttached s t → Runs on step s t
    → ((x y : Image) → step x y → SameHeld held x y) → ((x y : Image) → step x y → SparesDisks m x y) → TakesIn held m m s t
elsewhere_taken held m {s} {t} {on} {step} takes apart stays run spares own = record {
  name = refl;
  id = refl;
  shape = refl;
  own = apart;
  attached = stays;
  spares = spares_by held spares run;
  whole = λ mounted. (takes mounted).0;
  ready = λ mounted. ready_elsewhere m (takes mounted).0 (takes mounted).1 stays run own;
}

pub looks_taken : (held : List ℕ) (m : MountedGroup) {s t : BayState} {slots : ℕ → Type 0} {most : ℕ} → Takes m s → IsApart held m → Looks slots most s t → TakesIn held m m s t
looks_taken held m {s} {t} {slots} {most} takes apart looks =
    elsewhere_taken held m takes apart (record { stays = looks.stays }) looks.runs (same_held held) (λ x y same slot own. record { size = same.size slot; byte = same.byte slot })

-- ---- causes

-- of a record or a commit, after calls that led to the group as it was then
pub step_cause : (held : List ℕ) {a b c : MountedGroup} {s m t : BayState} → TakesIn held a b s m → IsMounted b → KeepsGroup b c m t → (e : Refusal) → StatusCause b c m t e → StepCause a c s t e
step_cause held {a} {b} {c} {s} {m} {t} before mounted keeps (refusal.Dismounted (disk.Number d)) why = ⊎_elim
    (λ was. absurd (not_mounted b d was mounted))
    (λ lost. has_failed lost.1.slot (ap (λ (l : List (Option Attached)). slot_at l d) keeps.same.disks ∙ lost.1.at)
    (rose_before (s.faults lost.1.slot) (m.faults lost.1.slot) (t.faults lost.1.slot) (before.spares.faults lost.1.slot) lost.1.rose))
    why
step_cause held {a} {b} {c} {s} {m} {t} before mounted keeps (refusal.Dismounted (disk.Spelt text)) why = absurd why
step_cause held {a} {b} {c} {s} {m} {t} before mounted keeps refusal.NoMemory why = tt
step_cause held {a} {b} {c} {s} {m} {t} before mounted keeps other why = absurd why

-- ---- calls of a group

pub nothing_goes : (m : MountedGroup) (s : BayState) → Takes m s → GoesOn m (Err refusal.NoMemory) m s s
nothing_goes m s takes = record { keeps = nothing_kept m s (λ mounted. (takes mounted).0) (λ mounted. (takes mounted).1); mounted = tt; cause = tt }

pub flight_is_taken : (held : List ℕ) (m n : MountedGroup) (s : BayState) → n ≡ (record m { flight = None }) → Takes m s → IsApart held m → TakesIn held m n s s
flight_is_taken held m n s is takes apart = subst (λ (x : MountedGroup). TakesIn held m x s s) (sym is) (flight_taken held m s takes apart)

pub flight_mounted : (m n : MountedGroup) → n ≡ (record m { flight = None }) → IsMounted m → IsMounted n
flight_mounted m n is mounted = ap (λ (x : MountedGroup). x.access) is ∙ mounted
