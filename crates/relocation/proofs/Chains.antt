-- The steps of a slice one after the other: what they keep, and why they are refused.
use Rattle.std.proofs.Common.{◌≡◌, ◌∙◌, inl, inr, ℕ, Bool, true, false, List, get_or, refl, sym, ap, subst, Option, Some, None, Result, Ok, Err, arith}
use Rattle.std.specs.Prelude.{IfErr, IfOk, OnOk}
use Rattle.std.proofs.lemmas.Option.{none-some}
use Rattle.std.specs.Bool.{OnTrue}
use Rattle.bay.specs.State.{BayState}
use Rattle.refusal_lines.specs.declared.refusal.DiskRef.{DiskRef}
use Rattle.refusal_lines.specs.declared.refusal.DiskRef.TheVariants.{Number, Spelt}
use Rattle.refusal_lines.specs.declared.refusal.Refusal.{Refusal}
use Rattle.refusal_lines.specs.declared.refusal.Refusal.TheVariants as cause
use Rattle.asm_base.specs.declared.records.Change.{Change}
use Rattle.resync.specs.catalog.Plans.{IsPlan}
use Rattle.resync.specs.catalog_tables.Tables.{Catalogued, Tables}
use Rattle.resync.proofs.catalog_tables.TableItems.{from_map}
use Rattle.asm_base.specs.Chunks.{Chunk}
use Rattle.resync.specs.rebalance.Cursors.{IsSameBut}
use Rattle.resync.specs.group_engine.Searches.{IsPlanIn}
use Rattle.resync.specs.status_register.declared.member.Member.{Member}
use Rattle.resync.specs.group_engine.Commits.{StatusCause}
use Rattle.resync.specs.group_engine.Copying as engine
use Rattle.resync.specs.group_engine.Members.{HasFailed, LetsGo, LettingCause}
use Rattle.resync.specs.group_engine.Making.{IsShut}
use Rattle.resync.specs.group_engine.Mounts.{IsMounted, IsOwn, IsWhole, MountedGroup, RoseOnDisk, Takes, slot_at}
use Rattle.resync.specs.group_engine.Own.{KeepsGroup}
use Rattle.resync.specs.group_engine.Pending.{GoesOn}
use Rattle.resync.specs.group_engine.declared.access.Access.{Access}
use Rattle.resync.specs.group_engine.declared.access.Access.TheVariants as access
use Rattle.resync.specs.group_engine.declared.attached.Attached.{Attached}
use Rattle.resync.specs.group_engine.declared.flight.Flight.{Flight}
use Rattle.resync.proofs.group_engine.Causes.{nothing_own, ready_in_flight, whole_in_flight}
use Rattle.resync.proofs.group_engine.Members.{cause_lets, keeps_lets, lets_join, letting_on}
use Rattle.resync.proofs.file_extents.Chains.{kept}
use Rattle.resync.specs.Copying.{CopyCause, refusal_of}
use Rattle.resync.specs.declared.copying.CopyError.{CopyError}
use Rattle.resync.specs.declared.copying.CopyError.TheVariants as copies
use Rattle.resync.proofs.Chains.{on_err}
use Rattle.relocation.specs.Endings.{FinishesRebalance}
use Rattle.relocation.specs.Slices.{FailedBy, Goes, HasCopyFault, SliceCause}

-- ---- what is kept

pub nothing_lets : (m : MountedGroup) (s : BayState) → Takes m s → LetsGo m m s s
nothing_lets m s takes = keeps_lets (kept m s takes)

pub lets_takes : {a b : MountedGroup} {s t : BayState} → LetsGo a b s t → Takes b t
lets_takes lets mounted = (lets.whole mounted, lets.ready mounted)

-- another move is on its way
other_flight : (m : MountedGroup) (f : Option Flight) (s : BayState) → Takes m s → LetsGo m (record m { flight = f }) s s
other_flight m f s takes = record {
  name = refl;
  id = refl;
  shape = refl;
  own = λ slot of. of;
  attached = record { same = λ k. refl };
  runs = nothing_own m s;
  whole = λ mounted. whole_in_flight m f (takes mounted).0;
  ready = λ mounted. ready_in_flight m f s (takes mounted).1;
}

module _ (m new : MountedGroup) (f : Option Flight) (is : new ≡ record m { flight = f }) where
  pub flight_lets : (s : BayState) → Takes m s → LetsGo m new s s
  flight_lets s takes = subst (λ (v : MountedGroup). LetsGo m v s s) (sym is) (other_flight m f s takes)

  pub flight_mounted : IsMounted m → IsMounted new
  flight_mounted mounted = ap (λ (v : MountedGroup). v.access) is ∙ mounted

  pub flight_disks : new.disks ≡ m.disks
  flight_disks = ap (λ (v : MountedGroup). v.disks) is

-- ---- causes

own_at : (m : MountedGroup) → IsWhole m → (d slot : ℕ) → slot_at m.disks d ≡ Some slot → IsOwn m slot
own_at m whole d slot at = let f = from_map (λ (x : Member). x.slot) (get_or m.register.members d None) slot (sym (whole.disks d) ∙ at) in (d, f.0, f.1, sym f.2)

pub own_slot : (m : MountedGroup) → IsWhole m → (d slot : ℕ) → slot_at m.disks d ≡ Some slot → IsOwn m slot
own_slot = own_at

rose_failed : (m : MountedGroup) → IsWhole m → (new : MountedGroup) → new.disks ≡ m.disks → (d : ℕ) (s t : BayState) → RoseOnDisk m d s t → HasFailed m new d s t
rose_failed m whole new same d s t rose = record {
  slot = rose.0;
  at = ap (λ (l : List (Option Attached)). slot_at l d) same ∙ rose.1;
  own = own_at m whole d rose.0 rose.1;
  rose = rose.2;
}

pub letting_slices : (a b : MountedGroup) (s t : BayState) (e : Refusal) → LettingCause a b s t e → SliceCause a b s t e
letting_slices a b s t (cause.Dismounted by) why = why
letting_slices a b s t cause.NoMemory why = tt
letting_slices a b s t _ why = absurd why

pub status_slices : {a b : MountedGroup} {s t : BayState} → IsWhole a → KeepsGroup a b s t → (e : Refusal) → StatusCause a b s t e → SliceCause a b s t e
status_slices {a} {b} {s} {t} whole keeps e why = letting_slices a b s t e (cause_lets a b s t whole keeps e why)

-- bytes that weren't copied
pub copy_faults : (m : MountedGroup) (to : ℕ) (s t : BayState) (e : CopyError) → CopyCause m to s t e → HasCopyFault m s t e
copy_faults m to s t (copies.Unread d) why = why
copy_faults m to s t (copies.Unwritten d) why = why.1
copy_faults m to s t copies.Nowhere why = tt

pub copy_slices : (m : MountedGroup) → IsWhole m → (new : MountedGroup) → new.disks ≡ m.disks → (s t : BayState) (e : CopyError) → HasCopyFault m s t e → SliceCause m new s t (refusal_of e)
copy_slices m whole new same s t (copies.Unread d) why = rose_failed m whole new same d s t why
copy_slices m whole new same s t (copies.Unwritten d) why = rose_failed m whole new same d s t why
copy_slices m whole new same s t copies.Nowhere why = tt

module _ {a b : MountedGroup} {s t : BayState} (one : LetsGo a b s t) (mounted : IsMounted b) (c : MountedGroup) (u : BayState) where
  failed_on : (by : DiskRef) → FailedBy b c t u by → FailedBy a c s u by
  failed_on (Number d) why = record { slot = why.slot; at = why.at; own = one.own why.slot why.own; rose = omega (arith, one.runs.faults why.slot, why.rose) }
  failed_on (Spelt text) why = absurd why

  pub slice_on : (e : Refusal) → SliceCause b c t u e → SliceCause a c s u e
  slice_on (cause.ReadFault by) why = failed_on by why
  slice_on (cause.WriteFault by) why = failed_on by why
  slice_on (cause.Dismounted by) why = letting_on a b c s t u one mounted (cause.Dismounted by) why
  slice_on cause.NoMemory why = tt
  slice_on _ why = absurd why

-- a group that takes no calls
shut_is : (m : MountedGroup) (s : BayState) (e : Refusal) (a : Access) → m.access ≡ a → IsShut a e → SliceCause m m s s e
shut_is m s e access.Mounted is why = absurd why
shut_is m s e (access.Dismounted d) is why = subst (λ (x : Refusal). SliceCause m m s s x) (sym why) (inl is)
shut_is m s e access.Closed is why = subst (λ (x : Refusal). SliceCause m m s s x) (sym why) tt

pub shut_slices : (m : MountedGroup) (s : BayState) (e : Refusal) → IsShut m.access e → SliceCause m m s s e
shut_slices m s e why = shut_is m s e m.access refl why

-- ---- steps

pub goes_short : {a b : MountedGroup} {s t : BayState} → LetsGo a b s t → Goes a (Err cause.NoMemory) b s t
goes_short lets = record { lets = lets; mounted = tt; cause = tt }

pub goes_done : {a b : MountedGroup} {s t : BayState} → LetsGo a b s t → IsMounted b → Goes a (Ok tt) b s t
goes_done lets mounted = record { lets = lets; mounted = mounted; cause = tt }

-- commits and records
pub commits_go : {a b : MountedGroup} {s t : BayState} (r : Result (Unit {0}) Refusal) → IsWhole a → GoesOn a r b s t → Goes a r b s t
commits_go {a} {b} {s} {t} r whole is = record {
  lets = keeps_lets is.keeps;
  mounted = is.mounted;
  cause = on_err (StatusCause a b s t) (SliceCause a b s t) r (status_slices whole is.keeps) is.cause;
}

-- one step more
pub goes_more : {a b c : MountedGroup} {s t u : BayState} (r : Result (Unit {0}) Refusal) → LetsGo a b s t → IsMounted b → Goes b r c t u → Goes a r c s u
goes_more {a} {b} {c} {s} {t} {u} r one mounted two = record {
  lets = lets_join one two.lets;
  mounted = two.mounted;
  cause = on_err (SliceCause b c t u) (SliceCause a c s u) r (slice_on one mounted c u) two.cause;
}

-- a directory copy more, on an attached disk
not_copied : (m : MountedGroup) → IsWhole m → (new : MountedGroup) → new.disks ≡ m.disks → (d slot : ℕ) → slot_at m.disks d ≡ Some slot → (s t : BayState) → engine.IsNotCopied m d s t → HasFailed m new d s t
not_copied m whole new same d slot at s t (inl none) = absurd (none-some slot (sym none ∙ at))
not_copied m whole new same d slot at s t (inr failed) = rose_failed m whole new same d s t failed

module _ {a b : MountedGroup} {s t : BayState} (whole : IsWhole a) (keeps : KeepsGroup a b s t) (d slot : ℕ) (at : slot_at a.disks d ≡ Some slot) where
  directory_slices : (e : Refusal) → engine.DirectoryCopyCause a d b s t e → SliceCause a b s t e
  directory_slices (cause.WriteFault by) why = subst (λ (x : DiskRef). FailedBy a b s t x) (sym why.0) (not_copied a whole b keeps.same.disks d slot at s t why.1)
  directory_slices (cause.Dismounted by) why = cause_lets a b s t whole keeps (cause.Dismounted by) why
  directory_slices cause.NoMemory why = tt
  directory_slices _ why = absurd why

  pub copy_goes : (r : Result (Unit {0}) Refusal) → OnOk r (IsMounted b) → IfErr r (engine.DirectoryCopyCause a d b s t) → Goes a r b s t
  copy_goes r mounted why = record {
    lets = keeps_lets keeps;
    mounted = mounted;
    cause = on_err (engine.DirectoryCopyCause a d b s t) (SliceCause a b s t) r directory_slices why;
  }

-- ---- ends

pub ends_done : (m : MountedGroup) (s : BayState) → IsMounted m → Takes m s → FinishesRebalance m (Ok tt) m s s
ends_done m s mounted takes = record { lets = nothing_lets m s takes; mounted = mounted; cause = tt }

pub ends_more : {a b c : MountedGroup} {s t u : BayState} (r : Result (Unit {0}) Refusal) → LetsGo a b s t → IsMounted b → FinishesRebalance b r c t u → FinishesRebalance a r c s u
ends_more {a} {b} {c} {s} {t} {u} r one mounted two = record {
  lets = lets_join one two.lets;
  mounted = two.mounted;
  cause = on_err (LettingCause b c t u) (LettingCause a c s u) r (letting_on a b c s t u one mounted) two.cause;
}

pub commits_end : {a b : MountedGroup} {s t : BayState} (r : Result (Unit {0}) Refusal) → IsWhole a → GoesOn a r b s t → FinishesRebalance a r b s t
commits_end {a} {b} {s} {t} r whole is = record {
  lets = keeps_lets is.keeps;
  mounted = is.mounted;
  cause = on_err (StatusCause a b s t) (LettingCause a b s t) r (cause_lets a b s t whole is.keeps) is.cause;
}

-- ---- tests

pub on_any : {P : Type 0} (b : Bool) → P → OnTrue b P
on_any true p = p
on_any false p = tt

-- ---- plans

pub planned : (at : Chunk) (k : Catalogued) (u : Tables) (r : Result Change Refusal) → IfOk r (λ change. IsPlan k change.put change.gone u) → IsSameBut at k.tables u → IfOk r (λ change. IsPlanIn at k change.put change.gone)
planned at k u (Ok change) is same = record { tables = u; plan = is; same = same }
planned at k u (Err e) is same = tt
