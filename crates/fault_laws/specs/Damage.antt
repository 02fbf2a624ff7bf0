-- Directories that were loaded of disks whose images stand for groups are not damaged.
use Rattle.std.specs.Prelude.{◌≡◌, ℕ, ◌<◌, true, List, length, Some}
use Rattle.std.specs.List.Sorted.{IsStrictlySortedBy}
use Rattle.bay.specs.Image.{Image}
use Rattle.bay.specs.State.{BayState}
use Rattle.asm_group.specs.Group.{Group}
use Rattle.asm_group.specs.Shape.{Shape}
use Rattle.asm_formats.specs.Among.{IsAmong}
use Rattle.asm_images.specs.Bridge.{disks_in}
use Rattle.asm_images.specs.Stands.{Standing}
use Rattle.asm_base.specs.Records.{key_cmp, keys_of}
use Rattle.directory_store.specs.Stores.{Stored}
use Rattle.status_register.specs.Answers.{Surveyed}
use Rattle.status_register.specs.SurveyLaws.{IsMemberOn}
use Rattle.status_register.specs.declared.member.Member.{Member}
use Rattle.group_recovery.specs.Finding.{AreThere}
use Rattle.group_recovery.specs.Founds.{FoundDisks}
use Rattle.group_recovery.specs.Loads.{LoadRefusal, copies_read}
use Rattle.group_recovery.specs.Mounting.{Allows}
use Rattle.group_recovery.specs.Quorum.{CatalogRefusal, IsStoreLoaded, IsStrangerRefusal}
use Rattle.group_recovery.specs.Surveying.{IsSurveyedNow, MembersCause}
use Rattle.group_recovery.specs.declared.error.MountError.TheVariants as error

-- The found disks are there, and the store was loaded from one copy of theirs at least, with its records in the order of their keys.
pub record WasLoaded (found : FoundDisks) (survey : Surveyed) (store : Stored) (shape : Shape) (t : BayState) : Type 0 where
  pub there : AreThere found.slots found.headed t
  pub surveyed : IsSurveyedNow found.slots found.id survey t
  pub loaded : IsStoreLoaded found survey store shape t
  pub some : 0 < length store.copies
  pub ordered : IsStrictlySortedBy key_cmp (keys_of store.table.records)

-- an image that a stop may leave now may stand for these groups, and for no others
pub record HasSoundImage (id : ℕ) (groups : List Group) (t : BayState) : Type 0 where
  pub image : Image
  pub left : t.leaves t.calls image
  pub allows : Allows id groups image

-- Then no record of the store is at fault, so a mount isn't refused by one.
abbrev pub SoundIsNotDamaged : BayState → Type 0
SoundIsNotDamaged t =
    (found : FoundDisks) (survey : Surveyed) (store : Stored) (shape : Shape) (groups : List Group) (slot block : ℕ) → WasLoaded found survey store shape t → HasSoundImage found.id groups t
    → CatalogRefusal store survey.value shape (error.Damaged slot block) → ⊥

-- ---- with all disks

-- The image may stand for these groups, and for no others; with all disks of so many slots it has Status and Directories, and so it stands for one.
pub record StandsForOne (n id : ℕ) (groups : List Group) (image : Image) : Type 0 where
  pub allows : Allows id groups image
  pub standing : Standing id (disks_in n image) (λ slot. true)

-- Then no open body of a member is damaged, where the bay tells what its disks hold: a survey isn't refused by one.
abbrev pub StandingHasWholeBodies : BayState → BayState → Type 0
StandingHasWholeBodies s t =
    (n id : ℕ) (ms : List Member) (groups : List Group) (slot block : ℕ) (held later : Image) → s.holds ≡ Some held → t.holds ≡ Some later → StandsForOne n id groups held
    → ((m : Member) → IsAmong ms m → IsMemberOn n id held m) → MembersCause id ms (error.Damaged slot block) s t → ⊥

-- And each member of the id is a disk of the group: none is refused as another one.
abbrev pub StandingHasNoStranger : BayState → Type 0
StandingHasNoStranger t =
    (found : FoundDisks) (groups : List Group) (slot block : ℕ) (image : Image) → AreThere found.slots found.headed t → t.leaves t.calls image → StandsForOne found.slots found.id groups image
    → IsStrangerRefusal found.id found.headed (error.Damaged slot block) → ⊥

-- And no directory copy that the record names is damaged, where the bay tells what its disks hold: a load isn't refused by one.
abbrev pub StandingHasWholeCopies : BayState → BayState → Type 0
StandingHasWholeCopies s t =
    (found : FoundDisks) (survey : Surveyed) (groups : List Group) (slot block : ℕ) (held later : Image) → AreThere found.slots found.headed s → s.holds ≡ Some held → t.holds ≡ Some later
    → StandsForOne found.slots found.id groups held → LoadRefusal (copies_read found.id found.headed survey) s t (error.Damaged slot block) → ⊥
