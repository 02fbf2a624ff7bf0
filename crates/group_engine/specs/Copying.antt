-- The directories are stored on a disk more.
use Rattle.std.specs.Prelude.{◌≡◌, ◌⊎◌, ⊤, ℕ, ◌+◌, ◌*◌, ◌<◌, ◌≤◌, ◌^◌, ◌==◌, ◌||◌, false, true, [], ◌∷◌, get_or, Some, None, IfErr, OnErr, OnOk, Result}
use Rattle.bay.specs.State.{BayState}
use Rattle.bay.specs.Moments.{LeavesOnly}
use Rattle.asm_group.specs.Group.{Group}
use Rattle.asm_formats.specs.Bytes.{block_size}
use Rattle.asm_formats.specs.Regions.{region_end}
use Rattle.asm_formats.specs.Sets.{has_bit}
use Rattle.refusal_lines.specs.declared.refusal.DiskRef.TheVariants as disk
use Rattle.refusal_lines.specs.declared.refusal.Refusal.{Refusal}
use Rattle.refusal_lines.specs.declared.refusal.Refusal.TheVariants as cause
use Rattle.directory_store.specs.change_directory.declared.copy.DirCopy.{DirCopy}
use Rattle.asm_formats.specs.Among.{IsAmong}
use Rattle.asm_images.specs.Kept.{Kept}
use Rattle.status_register.specs.Holders.{is_of}
use Rattle.status_register.specs.Registered.{Registered}
use Rattle.status_register.specs.declared.error.Dead.{Dead}
use Rattle.status_register.specs.declared.member.Member.{Member}
use Rattle.group_engine.specs.Commits.{DismountCause, StandsIn, turns_at_most}
use Rattle.status_register.specs.RegisterCalls.{HasWritten}
use Rattle.group_engine.specs.Mounts.{IsMounted, IsReady, IsWhole, MayRecord, MountedGroup, Mounts, RoseOnDisk, slot_at}
use Rattle.group_engine.specs.Own.{KeepsGroup}
use Rattle.group_engine.specs.declared.attached.Attached.{Attached}

-- a set with a disk more
abbrev pub IsWith : ℕ → ℕ → ℕ → Type 0
IsWith more all d = (k : ℕ) → k < 64 → has_bit more k ≡ (k == d || has_bit all k)

-- The register's record was written with the directory copy of a disk more.
pub record WritesMore (old : Registered) (d : ℕ) (answer : Result ℕ Dead) (new : Registered) (s t : BayState) : Type 0 where
  pub more : ℕ
  pub small : more < 2 ^ 64
  pub with : IsWith more old.value.directories d
  pub written : HasWritten old (record old.value { directories = more }) answer new s t

-- The copy may be one more of the group's: it is that of an attached disk that isn't named yet and has the entry of its number, it is
-- like one that the store has, and its region ends inside the image.
pub record IsOneMore (m : MountedGroup) (d : ℕ) (c : DirCopy) : Type 0 where
  pub small : d < 64
  pub number : c.number ≡ d
  pub member : Member
  pub attached : get_or m.register.members d None ≡ Some member
  pub slot : c.slot ≡ member.slot
  pub entry : is_of m.register.value.entries member ≡ true
  pub first : DirCopy
  pub stored : IsAmong m.store.copies first
  pub pages : c.dir_blocks ≡ first.dir_blocks
  pub sector : c.sector ≡ first.sector
  pub image : Attached
  pub at : get_or m.disks d None ≡ Some image
  pub room : region_end c.dir_blocks * block_size ≤ image.size

-- A mounted group of which the directories may be stored on such a copy: the record doesn't name its disk.
pub record MayStoreOn (m : MountedGroup) (d : ℕ) (c : DirCopy) (s : BayState) : Type 0 where
  pub mounted : IsMounted m
  pub whole : IsWhole m
  pub ready : IsReady m s
  pub copy : IsOneMore m d c
  pub unnamed : has_bit m.register.value.directories d ≡ false

-- a write to the disk was refused: no image is attached as it, or the slot of its image failed
abbrev pub IsNotCopied : MountedGroup → ℕ → BayState → BayState → Type 0
IsNotCopied m d s t = (slot_at m.disks d ≡ None) ⊎ RoseOnDisk m d s t

-- Why the directories aren't stored on a disk. Want of memory is free.
abbrev pub DirectoryCopyCause : MountedGroup → ℕ → MountedGroup → BayState → BayState → Refusal → Type 0
DirectoryCopyCause old d new s t (cause.WriteFault by) = (by ≡ disk.Number d) × IsNotCopied old d s t
DirectoryCopyCause old d new s t (cause.Dismounted by) = DismountCause old new s t by
DirectoryCopyCause old d new s t cause.NoMemory = ⊤
DirectoryCopyCause old d new s t _ = ⊥

-- What a refusal leaves: all as it was, but for what a dismounted group has besides its record.
abbrev pub LeavesGroup : MountedGroup → MountedGroup → Refusal → Type 0
LeavesGroup old new (cause.Dismounted by) = new.register.value ≡ old.register.value
LeavesGroup old new _ = new ≡ old

-- at each moment each image is held for the group
abbrev pub StandThrough : MountedGroup → BayState → BayState → Type 0
StandThrough old s t = (n : ℕ) (g : Group) (kept : Kept) → MayRecord n old s g kept → LeavesOnly s t (StandsIn n old.register.id (g ∷ []) kept)

-- the group is mounted afterwards, with the same disks
abbrev pub MountsLater : MountedGroup → MountedGroup → BayState → BayState → Type 0
MountsLater old new s t = (n : ℕ) (g : Group) (kept : Kept) → MayRecord n old s g kept → (later : Kept) × (later.slots ≡ kept.slots) × Mounts n new t g later

-- the group is mounted as before
abbrev pub MountsStill : MountedGroup → MountedGroup → BayState → BayState → Type 0
MountsStill old new s t = (n : ℕ) (g : Group) (kept : Kept) → Mounts n old s g kept → Mounts n new t g kept

-- The directories were stored on a disk more and named there, or that was refused.
pub record CopiesTo (old : MountedGroup) (d : ℕ) (answer : Result (Unit {0}) Refusal) (new : MountedGroup) (s t : BayState) : Type 0 where
  -- the group's parts agree, it takes the next call, and the disks of others stay
  pub keeps : KeepsGroup old new s t
  pub flight : new.flight ≡ old.flight
  pub tables : new.catalog ≡ old.catalog
  -- once it is done, the group takes calls still, and the record names the disk
  pub mounted : OnOk answer (IsMounted new)
  pub named : OnOk answer (has_bit new.register.value.directories d ≡ true)
  pub cause : IfErr answer (DirectoryCopyCause old d new s t)
  -- refused, it leaves the record that holds, and unless the group is dismounted all as before
  pub refused : IfErr answer (LeavesGroup old new)
  -- At each moment each image stands for the group. Once it is done the group is mounted with the record that names the disk, and after a
  -- refusal that doesn't dismount it as before.
  pub moments : StandThrough old s t
  pub done : OnOk answer (MountsLater old new s t)
  pub stays : IsMounted new → OnErr answer (MountsStill old new s t)
  -- its record takes a turn, and the copy may cost another once it fails
  pub turns : turns_at_most new ≤ turns_at_most old + 2
