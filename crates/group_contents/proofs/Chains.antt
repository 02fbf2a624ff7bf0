-- Calls on the files of a group one after the other: why they are refused.
use Rattle.std.proofs.Common.{◌≡◌, ◌⊎◌, ⊎_elim, inl, inr, ℕ, ◌<◌, true, Result, Ok, Err, sym, subst}
use Rattle.std.specs.Prelude.{IfErr}
use Rattle.bay.specs.State.{BayState}
use Rattle.asm_group.specs.Names.{Path}
use Rattle.asm_base.specs.declared.kinds.ExtentId.{ExtentId}
use Rattle.refusal_lines.specs.declared.refusal.DiskRef.{DiskRef}
use Rattle.refusal_lines.specs.declared.refusal.DiskRef.TheVariants.{Number, Spelt}
use Rattle.refusal_lines.specs.declared.refusal.Refusal.{Refusal}
use Rattle.refusal_lines.specs.declared.refusal.Refusal.TheVariants as cause
use Rattle.asm_formats.specs.Sets.{has_bit}
use Rattle.file_extents.specs.group_engine.Commits.{StatusCause}
use Rattle.file_extents.specs.group_engine.Making.{IsShut}
use Rattle.file_extents.specs.group_engine.Mounts.{IsMounted, MountedGroup}
use Rattle.file_extents.specs.group_engine.Own.{KeepsGroup}
use Rattle.file_extents.proofs.group_engine.Causes.{dismount_on}
use Rattle.file_extents.specs.group_pieces.Faults.{AreRisen}
use Rattle.file_extents.specs.group_pieces.Pieces.{PieceFault}
use Rattle.file_extents.specs.Filling.{FailedIn, FailsMore, FillCause, PutCause}
use Rattle.file_extents.proofs.Chains.{fault_on, no_bit, shut_cause}
use Rattle.group_contents.specs.Files.{AtFile, IsOpened, ReadCause, WriteCause, WriteFileCause}
use Rattle.group_contents.specs.declared.opening.OpenFile.{OpenFile}

pub status_writes : (a b : MountedGroup) (s t : BayState) (e : Refusal) → StatusCause a b s t e → WriteCause a b s t e
status_writes a b s t (cause.Dismounted by) why = why
status_writes a b s t cause.NoMemory why = tt
status_writes a b s t _ why = absurd why

pub status_reads : (m : MountedGroup) (s t : BayState) (file : OpenFile) (e : Refusal) → StatusCause m m s t e → ReadCause m s t file e
status_reads m s t file (cause.Dismounted by) why = why
status_reads m s t file cause.NoMemory why = tt
status_reads m s t file _ why = absurd why

-- a group that takes no calls
pub shut_reads : (m : MountedGroup) (s : BayState) (file : OpenFile) (e : Refusal) → IsShut m.access e → ReadCause m s s file e
shut_reads m s file e why = status_reads m s s file e (shut_cause m s e why)

pub shut_writes : (m : MountedGroup) (s : BayState) (e : Refusal) → IsShut m.access e → WriteCause m m s s e
shut_writes m s e why = status_writes m m s s e (shut_cause m s e why)

-- of a set in which no disk was
pub puts_write : (a b : MountedGroup) (s t : BayState) (e : Refusal) → PutCause a 0 b s t e → WriteCause a b s t e
puts_write a b s t (cause.WriteFault (Number d)) why = ⊎_elim (λ none. absurd (no_bit d none.1)) (λ rose. rose) why
puts_write a b s t (cause.WriteFault (Spelt text)) why = absurd why
puts_write a b s t (cause.Dismounted by) why = why
puts_write a b s t cause.NoMemory why = tt
puts_write a b s t _ why = absurd why

-- an extent lost its last copy: by its first copy that is on a disk of the set
pub fills_put : (a b : MountedGroup) (x : ℕ) (s t : BayState) (e : Refusal) → FillCause x e → PutCause a x b s t e
fills_put a b x s t (cause.WriteFault (Number d)) why = inl why
fills_put a b x s t (cause.WriteFault (Spelt text)) why = absurd why
fills_put a b x s t cause.NoMemory why = tt
fills_put a b x s t _ why = absurd why

-- the slots of all usable copies failed in a write of a piece
pub piece_fails : (m : MountedGroup) (x : ExtentId) (inner before : ℕ) (s t : BayState) (by : DiskRef) → PieceFault m x inner s t by → FailedIn m before s t by
piece_fails m x inner before s t (Number d) fault = inr fault.rose
piece_fails m x inner before s t (Spelt text) fault = absurd fault

-- by a disk of the set, or by this one
pub fault_puts : (a b : MountedGroup) (x : ℕ) (s t : BayState) (by : DiskRef) (e : Refusal) → FailedIn a x s t by → FillCause x e ⊎ (e ≡ cause.WriteFault by) → PutCause a x b s t e
fault_puts a b x s t by e failed why =
    ⊎_elim (λ of. fills_put a b x s t e of) (λ same. subst (λ (v : Refusal). PutCause a x b s t v) (sym same) failed) why

-- the disks that failed in one write more
pub more_failed : (m : MountedGroup) (before failed after : ℕ) (s t : BayState)
    → ((k : ℕ) → k < 64 → has_bit after k ≡ true → (has_bit before k ≡ true) ⊎ (has_bit failed k ≡ true))
    → AreRisen m failed s t → FailsMore m before after s t
more_failed m before failed after s t joins risen k small is = ⊎_elim (λ was. inl was) (λ new. inr (risen k small new)) (joins k small is)

module _ {m : MountedGroup} {s t : BayState} (keeps : KeepsGroup m m s t) (mounted : IsMounted m) (u : BayState) (file : OpenFile) where
  pub read_on : (e : Refusal) → ReadCause m t u file e → ReadCause m s u file e
  read_on (cause.Lost x) why = why
  read_on (cause.ReadFault by) why = fault_on keeps u by why
  read_on (cause.Dismounted by) why = dismount_on keeps u m mounted by why
  read_on cause.NoMemory why = tt
  read_on _ why = absurd why

module _ {a b : MountedGroup} {s t : BayState} (keeps : KeepsGroup a b s t) (mounted : IsMounted b) (u : BayState) (c : MountedGroup) where
  pub write_on : (e : Refusal) → WriteCause b c t u e → WriteCause a c s u e
  write_on (cause.WriteFault by) why = fault_on keeps u by why
  write_on (cause.Dismounted by) why = dismount_on keeps u c mounted by why
  write_on cause.NoMemory why = tt
  write_on _ why = absurd why

-- ---- answers

pub all_write : (a b : MountedGroup) (s t : BayState) (r : Result (Unit {0}) Refusal) → IfErr r (PutCause a 0 b s t) → IfErr r (WriteCause a b s t)
all_write a b s t (Ok done) why = tt
all_write a b s t (Err e) why = puts_write a b s t e why

-- of the file at a path
pub read_opened : (m : MountedGroup) (path : Path) (Before : Refusal → Type 0) (s t : BayState) (file : OpenFile) (r : Result (Unit {0}) Refusal) → IsOpened m.catalog.tables path file
    → IfErr r (ReadCause m s t file) → IfErr r (λ e. Before e ⊎ AtFile m path (ReadCause m s t) e)
read_opened m path Before s t file (Ok done) opened why = tt
read_opened m path Before s t file (Err e) opened why = inr (inr (file, opened, why))

pub write_opened : (a : MountedGroup) (path : Path) (at len : ℕ) (b : MountedGroup) (s t : BayState) (r : Result (Unit {0}) Refusal) → IfErr r (WriteCause a b s t)
    → IfErr r (WriteFileCause a path at len b s t)
write_opened a path at len b s t (Ok done) why = tt
write_opened a path at len b s t (Err e) why = inr why
