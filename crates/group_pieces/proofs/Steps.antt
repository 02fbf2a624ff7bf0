-- What the steps of a write of a piece keep of a group.
use Rattle.std.proofs.Common.{◌≡◌, inl, ℕ, refl, sym, subst, Result, Ok, Err}
use Rattle.std.specs.Prelude.{OnOk}
use Rattle.bay.specs.State.{BayState}
use Rattle.asm_base.specs.declared.kinds.ExtentId.{ExtentId}
use Rattle.refusal_lines.specs.declared.refusal.Refusal.{Refusal}
use Rattle.refusal_lines.specs.declared.refusal.Refusal.TheVariants as cause
use Rattle.record_laws.specs.group_engine.Commits.{StatusCause}
use Rattle.record_laws.specs.group_engine.Making.{IsShut}
use Rattle.record_laws.specs.group_engine.Mounts.{IsMounted, MountedGroup, Takes}
use Rattle.record_laws.specs.group_engine.Own.{KeepsGroup}
use Rattle.record_laws.specs.group_engine.declared.access.Access.{Access}
use Rattle.record_laws.specs.group_engine.declared.access.Access.TheVariants as access
use Rattle.record_laws.proofs.group_engine.Causes.{nothing_kept}
use Rattle.group_pieces.specs.declared.writing.WriteError.{WriteError}
use Rattle.group_pieces.specs.declared.writing.WriteError.TheVariants as writes
use Rattle.group_pieces.specs.Held.{PieceStays}
use Rattle.group_pieces.specs.Pieces.{WritePieceCause, write_refusal}
use Rattle.group_pieces.specs.Writes.{IsWriteCause}

-- the group takes the next call
pub takes_next : (old new : MountedGroup) (s t : BayState) → KeepsGroup old new s t → Takes new t
takes_next old new s t keeps = λ mounted. (keeps.whole mounted, keeps.ready mounted)

-- no call is made
pub keeps_itself : (m : MountedGroup) (s : BayState) → Takes m s → KeepsGroup m m s s
keeps_itself m s takes = nothing_kept m s (λ mounted. (takes mounted).0) (λ mounted. (takes mounted).1)

-- what follows from a call's success
pub on_ok : {A E : Type 0} {P Q : Type 0} (r : Result A E) → (P → Q) → OnOk r P → OnOk r Q
on_ok (Ok a) step is = step is
on_ok (Err e) step is = tt

pub any_ok : {A E : Type 0} {P : Type 0} (r : Result A E) → P → OnOk r P
any_ok (Ok a) is = is
any_ok (Err e) is = tt

-- ---- causes

-- Where some copies took the bytes it is refused as its steps are.
pub piece_cause : (old new : MountedGroup) (x : ExtentId) (inner : ℕ) (s t : BayState) (e : Refusal) → StatusCause old new s t e → WritePieceCause old x inner new s t e
piece_cause old new x inner s t (cause.Dismounted by) why = why
piece_cause old new x inner s t cause.NoMemory why = tt
piece_cause old new x inner s t _ why = absurd why

-- a group that takes no calls answers so
pub shut_cause : (m : MountedGroup) (x : ExtentId) (inner : ℕ) (s t : BayState) (e : Refusal) → IsShut m.access e → WritePieceCause m x inner m s t e
shut_cause m x inner s t e = go m.access refl
  where
    go : (a : Access) → m.access ≡ a → IsShut a e → WritePieceCause m x inner m s t e
    go access.Mounted at shut = absurd shut
    go (access.Dismounted d) at shut = subst (λ (r : Refusal). WritePieceCause m x inner m s t r) (sym shut) (inl at)
    go access.Closed at shut = subst (λ (r : Refusal). WritePieceCause m x inner m s t r) (sym shut) tt

-- where no copy took the bytes
pub fault_cause : (old new : MountedGroup) (x : ExtentId) (inner : ℕ) (s t : BayState) (e : WriteError) → IsWriteCause old x inner s t e → WritePieceCause old x inner new s t (write_refusal x e)
fault_cause old new x inner s t writes.Lost why = (refl, why)
fault_cause old new x inner s t (writes.Fault disk) why = why

-- ---- whether the group takes calls still

-- no call changed it
pub mounted_stays : (m : MountedGroup) (answer : Result ℕ Refusal) → IsMounted m → PieceStays answer m
mounted_stays m (Ok failed) mounted = mounted
mounted_stays m (Err (cause.WriteFault by)) mounted = mounted
mounted_stays m (Err (cause.Lost x)) mounted = mounted
mounted_stays m (Err _) mounted = tt

-- it took none before
pub shut_stays : (m : MountedGroup) (e : Refusal) → IsShut m.access e → PieceStays (Err e) m
shut_stays m e = go m.access
  where
    go : (a : Access) → IsShut a e → PieceStays (Err e) m
    go access.Mounted shut = absurd shut
    go (access.Dismounted d) shut = subst (λ (r : Refusal). PieceStays (Err r) m) (sym shut) tt
    go access.Closed shut = subst (λ (r : Refusal). PieceStays (Err r) m) (sym shut) tt

-- what failed couldn't be recorded
pub unrecorded_stays : (old new : MountedGroup) (s t : BayState) (e : Refusal) → StatusCause old new s t e → PieceStays (Err e) new
unrecorded_stays old new s t (cause.WriteFault by) why = absurd why
unrecorded_stays old new s t (cause.Lost x) why = absurd why
unrecorded_stays old new s t _ why = tt
