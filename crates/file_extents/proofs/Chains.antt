-- Calls on the files of a group one after the other: what they keep, and why they are refused.
use Rattle.std.proofs.Common.{◌≡◌, ◌⊎◌, ⊎_elim, inl, inr, ℕ, ◌<◌, true, None, Result, Ok, Err, refl, sym, ap, subst, ◌∙◌, arith}
use Rattle.std.specs.Prelude.{◌==◌, ◌||◌, IfErr}
use Rattle.std.specs.Int.{bit_at}
use Rattle.std.proofs.lemmas.Bool.{eqb-true, ne_eqb, or_cases, true≢false}
use Rattle.std.proofs.lemmas.Nat.Bits.{bit_at-zero}
use Rattle.bay.specs.State.{BayState}
use Rattle.refusal_lines.specs.declared.refusal.DiskRef.{DiskRef}
use Rattle.refusal_lines.specs.declared.refusal.DiskRef.TheVariants.{Number, Spelt}
use Rattle.refusal_lines.specs.declared.refusal.Refusal.{Refusal}
use Rattle.refusal_lines.specs.declared.refusal.Refusal.TheVariants as cause
use Rattle.asm_formats.specs.Sets.{has_bit}
use Rattle.group_pieces.specs.group_engine.Commits.{StatusCause}
use Rattle.group_pieces.specs.group_engine.Making.{IsShut}
use Rattle.group_pieces.specs.group_engine.Mounts.{IsMounted, MountedGroup, RoseOnDisk, Takes, slot_at}
use Rattle.group_pieces.specs.group_engine.Own.{KeepsGroup}
use Rattle.group_pieces.specs.group_engine.Pending.{GoesOn}
use Rattle.group_pieces.specs.group_engine.declared.access.Access.{Access}
use Rattle.group_pieces.specs.group_engine.declared.access.Access.TheVariants as access
use Rattle.group_pieces.proofs.group_engine.Causes.{cause_on, dismount_on, gives_up, nothing_kept}
use Rattle.group_pieces.proofs.group_engine.Endings.{goes_begin, keeps_closed}
use Rattle.file_extents.specs.Closing.{IsOrShut, or_shut, shut_group}
use Rattle.file_extents.specs.Filling.{FailsMore, FaultOn, FillCause, PutCause}

-- ---- what is kept

-- no call was made
pub kept : (m : MountedGroup) (s : BayState) → Takes m s → KeepsGroup m m s s
kept m s takes = nothing_kept m s (λ mounted. (takes mounted).0) (λ mounted. (takes mounted).1)

-- the group takes the next call
pub takes_on : {a b : MountedGroup} {s t : BayState} → KeepsGroup a b s t → Takes b t
takes_on keeps mounted = (keeps.whole mounted, keeps.ready mounted)

-- the move that is on its way is given up
pub given_up : (m new : MountedGroup) (s : BayState) → Takes m s → new ≡ record m { flight = None } → KeepsGroup m new s s
given_up m new s takes is = subst (λ (v : MountedGroup). KeepsGroup m v s s) (sym is) (gives_up m s takes)

pub given_mounted : (m new : MountedGroup) → IsMounted m → new ≡ record m { flight = None } → IsMounted new
given_mounted m new mounted is = ap (λ (v : MountedGroup). v.access) is ∙ mounted

-- ---- what a step leaves

pub goes_nothing : (m : MountedGroup) (s : BayState) → IsMounted m → Takes m s → GoesOn m (Ok tt) m s s
goes_nothing m s mounted takes = let t = takes mounted in goes_begin m s mounted t.0 t.1

pub goes_short : {a b : MountedGroup} {s t : BayState} → KeepsGroup a b s t → GoesOn a (Err cause.NoMemory) b s t
goes_short keeps = record { keeps = keeps; mounted = tt; cause = tt }

-- a group that is shut behind a call
pub goes_shut : {a b : MountedGroup} {s t : BayState} → KeepsGroup a b s t → (new : MountedGroup) (e : Refusal) → new ≡ shut_group b → e ≡ cause.NoMemory → GoesOn a (Err e) new s t
goes_shut {a} {b} {s} {t} keeps new e is why = subst (λ (x : Refusal). GoesOn a (Err x) new s t) (sym why) (subst (λ (v : MountedGroup). GoesOn a (Err cause.NoMemory) v s t) (sym is)
    (goes_short (keeps_closed keeps)))

-- ---- disks that failed

module _ {a b : MountedGroup} {s t : BayState} (keeps : KeepsGroup a b s t) (u : BayState) where
  pub rose_on : (d : ℕ) → RoseOnDisk b d t u → RoseOnDisk a d s u
  rose_on d rose =
      (rose.0, ap (λ (l : _). slot_at l d) (sym keeps.same.disks) ∙ rose.1, omega (arith, keeps.runs.faults rose.0, rose.2))

  pub fault_on : (by : DiskRef) → FaultOn b t u by → FaultOn a s u by
  fault_on (Number d) rose = rose_on d rose
  fault_on (Spelt text) none = absurd none

-- what failed in the first call failed in both
pub rose_before : (a : MountedGroup) {b c : MountedGroup} (s : BayState) {t u : BayState} → KeepsGroup b c t u → (d : ℕ) → RoseOnDisk a d s t → RoseOnDisk a d s u
rose_before a s keeps d rose = (rose.0, rose.1, omega (arith, keeps.runs.faults rose.0, rose.2))

pub fails_none : (m : MountedGroup) (failed : ℕ) (s : BayState) → FailsMore m failed failed s s
fails_none m failed s k small is = inl is

pub fails_on : {a b c : MountedGroup} {s t u : BayState} (x y z : ℕ) → KeepsGroup a b s t → KeepsGroup b c t u → FailsMore a x y s t → FailsMore b y z t u → FailsMore a x z s u
fails_on {a} {b} {c} {s} {t} {u} x y z one two first second k small is =
    ⊎_elim
    (λ was. ⊎_elim (λ before. inl before) (λ rose. inr (rose_before a s two k rose)) (first k small was))
    (λ rose. inr (rose_on one u k rose))
    (second k small is)

-- one disk more
pub fails_with : (m : MountedGroup) (x y d : ℕ) (s t : BayState) → RoseOnDisk m d s t → ((k : ℕ) → k < 64 → has_bit y k ≡ (k == d || has_bit x k)) → FailsMore m x y s t
fails_with m x y d s t rose with k small is =
    ⊎_elim
    (λ same. inr (subst (λ (j : ℕ). RoseOnDisk m j s t) (sym (eqb-true k d same)) rose))
    (λ before. inl before)
    (or_cases (k == d) (has_bit x k) (sym (with k small) ∙ is))

-- what failed in the first call failed in both
pub fails_before : (a : MountedGroup) {b c : MountedGroup} (s : BayState) {t u : BayState} (x y : ℕ) → KeepsGroup b c t u → FailsMore a x y s t → FailsMore a x y s u
fails_before a s x y two first k small is = ⊎_elim (λ was. inl was) (λ rose. inr (rose_before a s two k rose)) (first k small is)

-- a disk of the set failed
pub failed_in : (m new : MountedGroup) (x y : ℕ) (s t : BayState) (e : Refusal) → FailsMore m x y s t → FillCause y e → PutCause m x new s t e
failed_in m new x y s t (cause.WriteFault (Number d)) more why = ⊎_elim (λ before. inl (why.0, before)) (λ rose. inr rose) (more d why.0 why.1)
failed_in m new x y s t (cause.WriteFault (Spelt text)) more why = absurd why
failed_in m new x y s t cause.NoMemory more why = tt
failed_in m new x y s t _ more why = absurd why

-- the empty set has no disk
pub no_bit : (k : ℕ) → has_bit 0 k ≡ true → ⊥
unfolding has_bit
no_bit k is = true≢false (sym is ∙ ne_eqb (bit_at 0 k) 1 (λ e. omega (arith, e, bit_at-zero k)))

-- ---- refusals

-- a group that takes no calls
pub shut_is : (m : MountedGroup) (s : BayState) (e : Refusal) (a : Access) → m.access ≡ a → IsShut a e → StatusCause m m s s e
shut_is m s e access.Mounted is why = absurd why
shut_is m s e (access.Dismounted d) is why = subst (λ (x : Refusal). StatusCause m m s s x) (sym why) (inl is)
shut_is m s e access.Closed is why = subst (λ (x : Refusal). StatusCause m m s s x) (sym why) tt

pub shut_cause : (m : MountedGroup) (s : BayState) (e : Refusal) → IsShut m.access e → StatusCause m m s s e
shut_cause m s e why = shut_is m s e m.access refl why

pub status_puts : (a b : MountedGroup) (x : ℕ) (s t : BayState) (e : Refusal) → StatusCause a b s t e → PutCause a x b s t e
status_puts a b x s t (cause.Dismounted by) why = why
status_puts a b x s t cause.NoMemory why = tt
status_puts a b x s t _ why = absurd why

pub status_put : (a b : MountedGroup) (x : ℕ) (s t : BayState) (r : Result (Unit {0}) Refusal) → IfErr r (StatusCause a b s t) → IfErr r (PutCause a x b s t)
status_put a b x s t (Ok done) why = tt
status_put a b x s t (Err e) why = status_puts a b x s t e why

-- the operation was ended for a refusal, or couldn't be
pub given_back : {a b c : MountedGroup} {s t u : BayState} (x y : ℕ) (e r : Refusal) → KeepsGroup a b s t → IsMounted b → KeepsGroup b c t u → FailsMore a x y s t → FillCause y e
    → (r ≡ e) ⊎ StatusCause b c t u r → PutCause a x c s u r
given_back {a} {b} {c} {s} {t} {u} x y e r one mounted two more why =
    ⊎_elim
    (λ same. subst (λ (v : Refusal). PutCause a x c s u v) (sym same) (failed_in a c x y s u e (fails_before a s x y two more) why))
    (λ because. status_puts a c x s u r (cause_on one u c mounted r because))

module _ {a b : MountedGroup} {s t : BayState} (keeps : KeepsGroup a b s t) (mounted : IsMounted b) (u : BayState) (c : MountedGroup) where
  pub put_on : (x y : ℕ) → FailsMore a x y s t → KeepsGroup b c t u → (e : Refusal) → PutCause b y c t u e → PutCause a x c s u e
  put_on x y more two (cause.WriteFault (Number d)) why =
      ⊎_elim
      (λ was. ⊎_elim (λ before. inl (was.0, before)) (λ rose. inr (rose_before a s two d rose)) (more d was.0 was.1))
      (λ rose. inr (rose_on keeps u d rose))
      why
  put_on x y more two (cause.WriteFault (Spelt text)) why = absurd why
  put_on x y more two (cause.Dismounted by) why = dismount_on keeps u c mounted by why
  put_on x y more two cause.NoMemory why = tt
  put_on x y more two _ why = absurd why

-- ---- ends

-- after want of memory the group takes no more calls
pub or_shut_goes : (a b c : MountedGroup) (s t : BayState) (r q : Result (Unit {0}) Refusal) → GoesOn a r b s t → IsOrShut r b q c → GoesOn a q c s t
or_shut_goes a b c s t r q goes is = subst (λ (x : Result (Unit {0}) Refusal). GoesOn a x c s t) (sym is.0) (subst (λ (x : MountedGroup). GoesOn a r x s t) (sym is.1) (by r goes))
  where
    by : (x : Result (Unit {0}) Refusal) → GoesOn a x b s t → GoesOn a x (or_shut x b) s t
    by (Err cause.NoMemory) was = record { keeps = keeps_closed was.keeps; mounted = tt; cause = tt }
    by (Ok done) was = was
    by (Err _) was = was
