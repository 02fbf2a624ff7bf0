-- Reads of a file of the mounted group of a name, and why they fail.
use Rattle.std.proofs.Common.{◌≡◌, ◌⊎◌, ⊎_elim, inr, ℕ, [], Result, Ok, Err, refl, sym, ◌∙◌, subst}
use Rattle.std.specs.Prelude.{IfErr, IfOk}
use Rattle.std.proofs.lemmas.Option.{same_Some}
use Rattle.bay.specs.State.{BayState}
use Rattle.refusal_lines.specs.Refusals.{meaning_of}
use Rattle.refusal_lines.specs.declared.refusal.DiskRef.{DiskRef}
use Rattle.refusal_lines.specs.declared.refusal.DiskRef.TheVariants.{Number, Spelt}
use Rattle.refusal_lines.specs.declared.refusal.Refusal.{Refusal}
use Rattle.refusal_lines.specs.declared.refusal.Refusal.TheVariants as cause
use Rattle.asm_group.specs.Names.{Bytes, Path}
use Rattle.asm_group.specs.Refusal as r
use Rattle.session.specs.group_engine.Commits.{DismountCause}
use Rattle.session.specs.group_engine.Mounts.{IsMounted, MountedGroup}
use Rattle.session.proofs.group_engine.Causes.{not_mounted}
use Rattle.session.specs.group_contents.Files.{ReadCause}
use Rattle.session.specs.group_contents.Reading.{ShowsFile, WhereMounted}
use Rattle.session.specs.group_contents.declared.opening.OpenFile.{OpenFile}
use Rattle.session.specs.Entries.{disk_name}
use Rattle.session.specs.Listing.{IsInGroup}
use Rattle.session.specs.Naming.{IsGroupOf}
use Rattle.session.specs.Sessions.{SessionView}
use Rattle.file_commands.specs.Reading.{FailsRead, IsLinesCause, IsNoSpan, IsFileReadCause, OpensSpan, ShowsBytes, failed, none, out}

-- the group of the name is one
pub shows_group : (session : SessionView) (name : Bytes) (m : MountedGroup) (s t : BayState) (file : OpenFile) (at : ℕ) (bytes : Bytes) → IsGroupOf session name m → WhereMounted m s t (λ g. ShowsFile g file at bytes)
    → ShowsBytes session name file at s t bytes
shows_group session name m s t file at bytes is shows = λ other also.
    subst (λ (x : MountedGroup). WhereMounted x s t (λ g. ShowsFile g file at bytes)) (same_Some m other (sym is.named ∙ also.named)) shows

-- a group that takes calls isn't dismounted by a read
still_on : (m : MountedGroup) (s t : BayState) (by : DiskRef) → IsMounted m → DismountCause m m s t by → ⊥
still_on m s t (Number d) mounted why = ⊎_elim (λ before. not_mounted m d before mounted) (λ later. not_mounted m d later.0 mounted) why
still_on m s t (Spelt text) mounted why = why

fails_so : (names : ℕ → Bytes) (m : MountedGroup) (s t : BayState) (file : OpenFile) (e : Refusal) → IsMounted m → ReadCause m s t file e → FailsRead (meaning_of names e)
unfolding meaning_of
fails_so names m s t file (cause.Lost x) mounted why = tt
fails_so names m s t file (cause.ReadFault by) mounted why = tt
fails_so names m s t file (cause.Dismounted by) mounted why = absurd (still_on m s t by mounted why)
fails_so names m s t file cause.NoMemory mounted why = tt
fails_so names m s t file _ mounted why = absurd why

-- the same with the disk spelt
pub fails_spelt : (m : MountedGroup) (s t : BayState) (file : OpenFile) (e spelt : Refusal) → IsMounted m → ReadCause m s t file e
    → (meaning_of (λ _. []) spelt ≡ meaning_of (disk_name m) e) ⊎ (meaning_of (λ _. []) spelt ≡ r.NoMemory) → FailsRead (meaning_of (λ _. []) spelt)
fails_spelt m s t file e spelt mounted why is = ⊎_elim
    (λ (same : meaning_of (λ _. []) spelt ≡ meaning_of (disk_name m) e). subst FailsRead (sym same) (fails_so (disk_name m) m s t file e mounted why))
    (λ (memory : meaning_of (λ _. []) spelt ≡ r.NoMemory). subst FailsRead (sym memory) tt)
    is

-- ---- a span of a file of the group

module _ (session : SessionView) (name : Bytes) (path : Path) (at len : ℕ) (m : MountedGroup) (is : IsGroupOf session name m) where
  pub opens_in : (result : Result OpenFile Refusal) → IfOk result (OpensSpan m path at len) → IfOk result (λ file. IsInGroup session name (λ x. OpensSpan x path at len file))
  opens_in (Ok file) opens = record { group = m; is_group = is; caused = opens }
  opens_in (Err refusal) opens = tt

  pub none_in : (result : Result OpenFile Refusal) → IfErr result (IsNoSpan m path at len) → IfErr result (IsLinesCause session name path at len)
  none_in (Ok file) why = tt
  none_in (Err refusal) why = none (record { group = m; is_group = is; caused = why })

-- the bytes of the open file aren't read
pub lines_cause : (session : SessionView) (name : Bytes) (path : Path) (at len : ℕ) (file : OpenFile) (refusal : Refusal) → IsInGroup session name (λ m. OpensSpan m path at len file) → IsFileReadCause session name refusal
    → IsLinesCause session name path at len refusal
lines_cause session name path at len file refusal there why = ⊎_elim
    (λ away. out away)
    (λ fails. failed (record { group = there.group; is_group = there.is_group; caused = (file, there.caused) }) fails)
    why

-- ---- want of memory

pub short_read : (session : SessionView) (name : Bytes) → IsFileReadCause session name cause.NoMemory
unfolding meaning_of
short_read session name = inr tt

pub short_lines : (session : SessionView) (name : Bytes) (path : Path) (at len : ℕ) → IsLinesCause session name path at len cause.NoMemory
unfolding meaning_of
short_lines session name path at len = out (inr refl)
