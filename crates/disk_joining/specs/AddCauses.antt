-- Why new disks don't join a group.
use Rattle.std.specs.Prelude.{◌≡◌, ◌⊎◌, ⊤, ℕ, ◌+◌, ◌-◌, ◌<◌, nat_lt, List, [], ◌∷◌, ◌++◌, length, Option, Some, None, if◌then◌else◌}
use Rattle.bay.specs.Counts.{Rose}
use Rattle.bay.specs.State.{BayState}
use Rattle.refusal_lines.specs.Refusals.{meaning_of}
use Rattle.refusal_lines.specs.declared.refusal.DiskRef.TheVariants as disk
use Rattle.refusal_lines.specs.declared.refusal.Refusal.{Refusal}
use Rattle.refusal_lines.specs.declared.refusal.Refusal.TheVariants as refusal
use Rattle.asm_formats.specs.Status.{Entry}
use Rattle.asm_group.specs.Names.{Bytes}
use Rattle.asm_group.specs.Refusal as r
use Rattle.asm_world.specs.NewDisks.{PlannedDisk, is_name_taken}
use Rattle.asm_world.specs.Reports.{DiskRow}
use Rattle.asm_world.specs.Statement.{NewFailgroup}
use Rattle.file_extents.specs.catalog_tables.Rules.{blocks_used}
use Rattle.file_extents.specs.catalog_tables.Tables.{Catalogued}
use Rattle.disk_images.specs.Looks.{AreLooked}
use Rattle.disk_images.specs.declared.looking.Looked.{Looked}
use Rattle.file_extents.specs.group_engine.Mounts.{MountedGroup}
use Rattle.new_groups.specs.Causes.{creation_disks, first_refusal, first_refused, image_refusals, places_at, small_refusal, terms_of}
use Rattle.new_groups.specs.Planning.{disk_count}
use Rattle.new_groups.specs.declared.asked.Known.{Known}
use Rattle.new_groups.specs.declared.places.Place.{Place}
use Rattle.new_groups.specs.declared.planned.Terms.{Terms}
use Rattle.disk_joining.specs.Asking.{IsKnownWith, asked_disks, group_rows}
use Rattle.disk_joining.specs.Causes.{StepCause}
use Rattle.disk_joining.specs.declared.asked.Asked.{Asked}

-- ---- tests of the disks

-- with the disks that are there they are more than a group may have
abbrev pub IsTooManyMore : List Entry → List NewFailgroup → r.Refusal → Type 0
IsTooManyMore entries groups (r.TooMany kind limit) = (kind ≡ r.Disks) × (limit ≡ 64) × (64 < length entries + disk_count groups)
IsTooManyMore entries groups r.NoMemory = ⊤
IsTooManyMore entries groups other = ⊥

-- two of the disks clash, or one with a disk that is there
abbrev pub names_refusal : List DiskRow → List PlannedDisk → Option r.Refusal
names_refusal rows disks = if is_name_taken rows disks then Some r.NameTaken else None

-- the blocks that new records may take
abbrev pub free_blocks : Catalogued → ℕ
free_blocks c = c.shape.dir_blocks - (blocks_used c.tables + 2)

-- the directories have fewer blocks than the disks need
abbrev pub full_refusal : ℕ → ℕ → Option r.Refusal
full_refusal need free = if nat_lt free need then Some (r.DirectoryFull need free) else None

-- why the disks, on these images, can't join the group
abbrev pub group_refusals : MountedGroup → List PlannedDisk → List Terms → List Place → List (Option r.Refusal)
group_refusals m disks terms places =
    names_refusal (group_rows m) disks ∷ first_refused (small_refusal m.catalog.shape) (creation_disks disks terms places) ∷ full_refusal (length disks) (free_blocks m.catalog) ∷ []

-- What stands against the disks by what was looked at, in this order.
abbrev pub add_refusal : Known → MountedGroup → List Bytes → List Looked → Asked → Option r.Refusal
add_refusal all m paths looked a =
    first_refusal (image_refusals all paths looked a.disks.items a.terms.items ++ group_refusals m a.disks.items a.terms.items (places_at paths looked a.disks.items))

-- ---- why nothing is written

-- The refusal is the first by what is known of all groups, this one among them.
pub record StandsAgainst (known : Known) (m : MountedGroup) (paths : List Bytes) (looked : List Looked) (a : Asked) (refusal : r.Refusal) : Type 0 where
  pub all : Known
  pub with_own : IsKnownWith m known all
  pub first : add_refusal all m paths looked a ≡ Some refusal

-- so it is, or there was no memory
abbrev pub IsUnfit : Known → MountedGroup → List Bytes → List Looked → Asked → r.Refusal → Type 0
IsUnfit known m paths looked a refusal = StandsAgainst known m paths looked a refusal ⊎ (refusal ≡ r.NoMemory)

-- What stands against the disks that are named, by what was looked at.
pub record IsRefusedByLook (paths : List Bytes) (groups : List NewFailgroup) (known : Known) (m : MountedGroup) (refusal : r.Refusal) (s t : BayState) : Type 0 where
  pub asked : Asked
  pub disks : asked.disks.items ≡ asked_disks m groups
  pub terms : asked.terms.items ≡ terms_of groups
  pub looked : List Looked
  pub are_looked : AreLooked looked s t
  pub count : length looked ≡ length paths
  pub first : StandsAgainst known m paths looked asked refusal

-- Why an ADD is refused before its first write.
pub data IsNotPrepared (paths : List Bytes) (groups : List NewFailgroup) (known : Known) (m : MountedGroup) (refusal : r.Refusal) (s t : BayState) : Type 0 where
  by_too_many : IsTooManyMore m.register.value.entries groups refusal → IsNotPrepared paths groups known m refusal s t
  by_refused_look : IsRefusedByLook paths groups known m refusal s t → IsNotPrepared paths groups known m refusal s t
  by_lack_of_memory : refusal ≡ r.NoMemory → IsNotPrepared paths groups known m refusal s t

-- ---- why what was begun is refused

-- a disk that is spelt failed, or there was no memory
abbrev pub IsWriteFault : Refusal → Type 0
IsWriteFault (refusal.WriteFault (disk.Spelt text)) = ⊤
IsWriteFault refusal.NoMemory = ⊤
IsWriteFault other = ⊥

-- some disk failed
abbrev pub SomeFailed : BayState → BayState → Type 0
SomeFailed s t = (slot : ℕ) × Rose (s.faults slot) (t.faults slot)

-- Why a step is refused by which disks join: a new disk fails, which is spelt, or as a record or a commit is.
abbrev pub JoinCause : MountedGroup → MountedGroup → BayState → BayState → Refusal → Type 0
JoinCause old new s t (refusal.WriteFault (disk.Spelt text)) = SomeFailed s t
JoinCause old new s t other = StepCause old new s t other

-- Why new disks don't join: by what they are, or since a step is refused.
pub data AddCause (paths : List Bytes) (groups : List NewFailgroup) (known : Known) (old new : MountedGroup) (s t : BayState) (given : Refusal) : Type 0 where
  by_disks : IsNotPrepared paths groups known old (meaning_of (λ _. []) given) s t → AddCause paths groups known old new s t given
  by_step : JoinCause old new s t given → AddCause paths groups known old new s t given
