-- What a mount leaves on the disks of its group, at each moment of its claim and its record anew, and once that record is complete.
use Rattle.std.specs.Prelude.{◌≡◌, ◌⊎◌, ℕ, ◌+◌, ◌^◌, ◌<◌, ◌≤◌, ◌==◌, Bool, List, [], ◌∷◌, IfOk, Result, Some}
use Rattle.std.specs.List.{list_any}
use Rattle.bay.specs.Image.{Image, SameDisk}
use Rattle.bay.specs.Moments.{LeavesOnly, NowOnly}
use Rattle.bay.specs.State.{BayState}
use Rattle.asm_group.specs.Group.{Group}
use Rattle.asm_formats.specs.Among.{IsAmong}
use Rattle.asm_formats.specs.Content.{Content}
use Rattle.asm_formats.specs.Status.{Status}
use Rattle.asm_images.specs.Kept.{Kept, IsHeld, IsMemberIn}
use Rattle.directory_store.specs.change_directory.declared.copy.DirCopy.{DirCopy}
use Rattle.directory_store.specs.change_directory.Changes.{content_in}
use Rattle.status_register.specs.Keeping.{FitsRegister}
use Rattle.status_register.specs.declared.member.Member.{Member}
use Rattle.group_recovery.specs.Mounting.{Allows, DescribesIn}
use Rattle.group_recovery.specs.declared.error.MountError.{MountError}
use Rattle.group_recovery.specs.declared.quorum.Quorate.{Quorate}
use Rattle.group_recovery.specs.declared.recovering.Parts.{Parts}

-- What is known of the disks before: each image may stand for the groups of the list, and for no others; and the epoch that was read
-- isn't the last one.
pub record StoodFor (q : Quorate) (groups : List Group) (state : BayState) : Type 0 where
  pub allows : NowOnly state (Allows q.id groups)
  pub epochs : q.survey.epoch + 1 < 2 ^ 64

-- What was read is this group: with this record as Status and the content of a copy of the store as Directories the disks hold it, however
-- many slots from those on that were looked at are counted.
abbrev pub IsMeant : Quorate → Status → Group → Image → Type 0
IsMeant q r g image =
    (slots : ℕ) (c : DirCopy) (content : Content) → q.slots ≤ slots → IsAmong q.store.copies c → content_in c image ≡ Some content → DescribesIn slots q.id image r content g

-- the slot is that of one of the attached disks
abbrev pub is_own_slot : List (Member × ℕ) → ℕ → Bool
is_own_slot disks slot = list_any (λ (x : Member × ℕ). x.0.slot == slot) disks

-- What is kept of the group: its record anew is complete, none was begun after it, and these are the slots of its attached disks.
abbrev pub kept_by : Parts → Kept
kept_by parts = record { completed = parts.register.value; begun = []; slots = is_own_slot parts.disks.items }

-- the group has the name and the shape of the parts
abbrev pub HasNameOf : Parts → Group → Type 0
HasNameOf parts g = (g.name ≡ parts.name) × (g.shape ≡ parts.shape)

-- One group of the list is left once the record anew is complete.
pub record LeavesOneGroup (q : Quorate) (groups : List Group) (parts : Parts) (s t : BayState) : Type 0 where
  -- the group that each image means is held, and it alone
  pub held : (g : Group) → IsAmong groups g → NowOnly s (IsMeant q q.survey.value g) → NowOnly t (IsHeld q.slots q.id (g ∷ []) (kept_by parts))
  -- and each image means it still, with the record anew
  pub still : (g : Group) → IsAmong groups g → NowOnly s (IsMeant q q.survey.value g) → NowOnly t (IsMeant q parts.register.value g)
  -- a group that is alone in the list is meant by each image
  pub only : (g : Group) → groups ≡ g ∷ [] → NowOnly s (IsMeant q q.survey.value g)
  -- what an image means has the name and the shape of the parts
  pub named : (g : Group) → NowOnly s (λ image. IsMeant q q.survey.value g image → HasNameOf parts g)
  -- the register keeps the history that begins with the record, whichever histories the images had before
  pub history : (slots : ℕ) → q.slots ≤ slots → FitsRegister slots parts.register (Some parts.register.value) [] t
  -- one turn of the epoch is used up
  pub turn : parts.register.turn ≡ 1

-- Each image of each moment may stand for the groups of the list, and for no others, also where the mount is refused. Once it is done, one
-- of them is left.
pub record LeavesGroups (q : Quorate) (groups : List Group) (answer : Result Parts MountError) (s t : BayState) : Type 0 where
  pub moments : LeavesOnly s t (Allows q.id groups)
  pub one : IfOk answer (λ parts. LeavesOneGroup q groups parts s t)

-- ---- other ids

-- Each disk stays, or is a member of the id before and after.
abbrev pub ChangesMembers : ℕ → Image → Image → Type 0
ChangesMembers id old new = (slot : ℕ) → SameDisk slot old new ⊎ (IsMemberIn id old slot × IsMemberIn id new slot)
