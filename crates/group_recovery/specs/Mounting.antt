-- What a mount reads of the disks of its group and writes on them, image by image.
use Rattle.std.specs.Prelude.{◌≡◌, ◌≢◌, ℕ, ◌-◌, ◌*◌, ◌<◌, ◌≤◌, true, false, List, [], ◌∷◌, filter, get_or, Some, None, IsTrue}
use Rattle.bay.specs.Image.{Image, Range, Same, ChangesOnly}
use Rattle.asm_group.specs.Group.{Group}
use Rattle.asm_formats.specs.Bytes.{block_size}
use Rattle.asm_formats.specs.Claim.{Claim, is_claim, claim_spelling}
use Rattle.asm_formats.specs.Content.{Content}
use Rattle.asm_formats.specs.Header.{Header}
use Rattle.asm_formats.specs.Pages.{copy_content}
use Rattle.asm_formats.specs.Regions.{region_start, region_end}
use Rattle.asm_formats.specs.Sets.{elements}
use Rattle.asm_formats.specs.Status.{Status, Entry, is_status, status_spelling}
use Rattle.asm_formats.specs.Among.{IsAmong}
use Rattle.asm_images.specs.Bridge.{disk_bytes, disks_in}
use Rattle.asm_images.specs.Kept.{Kept, header_in}
use Rattle.asm_images.specs.Members.{all_members}
use Rattle.asm_images.specs.Register.{greatest}
use Rattle.asm_images.specs.Sound.{Sound}
use Rattle.asm_images.specs.Stands.{Describes}
use Rattle.status_register.specs.Holders.{is_of}
use Rattle.status_register.specs.Keeping.{HasHistory}
use Rattle.status_register.specs.Registered.{Registered, AreNumbered}
use Rattle.status_register.specs.Rows.{HasClaim, HasStatus, PutsRow}
use Rattle.status_register.specs.Slots.{claim_gate, status_gate}
use Rattle.status_register.specs.SurveyLaws.{IsMemberOn, slots_of}
use Rattle.status_register.specs.Surveys.{claims_on, records_on, greatest_epoch, disk_in, missing}
use Rattle.status_register.specs.declared.member.Member.{Member}
use Rattle.group_recovery.specs.Bringing.{MayTake}
use Rattle.asm_images.specs.Kept.{IsHeld}
use Rattle.group_recovery.specs.Renewing.{Renews}

-- The id, the attached disks, those of them that were read, the record that was read, the record that is written anew, and the content that is taken.
pub record MountReading : Type 0 where
  pub id : ℕ
  pub members : List Member
  pub seen : List Member
  pub read : Status
  pub next : Status
  pub content : Content

-- the claim of the new record's epoch
abbrev pub mount_claim : MountReading → Claim
mount_claim mount = record { id = mount.id; epoch = mount.next.epoch }

-- the record names the directory copy on the disk, which is that of its number's entry
abbrev pub NamesCopy : Status → Member → Type 0
NamesCopy r m = IsAmong (elements r.directories) m.number × (is_of r.entries m ≡ true)

-- The new record is the old one anew, under the claimed epoch. It names copies on attached disks alone.
pub record IsMount (mount : MountReading) : Type 0 where
  pub renews : Renews mount.read mount.next
  pub not_gone : mount.read.gone ≡ false
  pub group : mount.next.id ≡ mount.id
  pub is_record : IsTrue (is_status mount.next)
  pub is_a_claim : IsTrue (is_claim (mount_claim mount))
  pub on_attached : (d : ℕ) → IsAmong (elements mount.next.directories) d
      → (m : Member) × IsAmong mount.members m × NamesCopy mount.next m × (m.number ≡ d)
  pub numbers : AreNumbered mount.members

-- the disk has the content that is taken
abbrev pub HasTakenContent : MountReading → Member → Image → Type 0
HasTakenContent mount m image = (disk_in image m.slot).content ≡ Some mount.content

-- What a mount has read of an image of n slots: the attached disks are members; those that were read are a majority of each set of their greatest
-- record; and no claim and no record on these is of the epoch that is claimed or of a later one.
pub record IsMountRead (n : ℕ) (mount : MountReading) (image : Image) : Type 0 where
  pub members : (m : Member) → IsAmong mount.members m → IsMemberOn n mount.id image m
  pub among : (m : Member) → IsAmong mount.seen m → IsAmong mount.members m
  pub greatest_is : greatest (records_on mount.id image mount.seen) ≡ Some mount.read
  pub enough : missing mount.seen (Some mount.read) ≡ None
  pub claims_below : greatest_epoch (claims_on mount.id image mount.seen) < mount.next.epoch
  pub record_below : mount.read.epoch < mount.next.epoch

-- ---- the three stages

-- the new record's epoch is claimed on a majority of each set
pub record HasClaimed (mount : MountReading) (old new : Image) : Type 0 where
  pub row : PutsRow (claim_gate mount.id) mount.members (claim_spelling (mount_claim mount)) old new
  pub took : List Member
  pub among : (m : Member) → IsAmong took m → IsAmong mount.members m
  pub shown : (m : Member) → IsAmong took m → HasClaim (claim_spelling (mount_claim mount)) m.slot new
  pub enough : missing took (Some mount.read) ≡ None

-- and it stands on a majority of each set
pub record HasRecorded (mount : MountReading) (old new : Image) : Type 0 where
  pub between : Image
  pub claimed : HasClaimed mount old between
  pub row : PutsRow (status_gate mount.id) mount.members (status_spelling mount.next) between new
  pub took : List Member
  pub among : (m : Member) → IsAmong took m → IsAmong mount.members m
  pub shown : (m : Member) → IsAmong took m → HasStatus (status_spelling mount.next) m.slot new
  pub enough : missing took (Some mount.next) ≡ None

-- The copy on a disk is being brought up, while another copy has the content: in its directory region anything may change, so long as its content
-- stays, is gone, or is the one that is taken.
pub record BringsUp (mount : MountReading) (m source : Member) (old new : Image) : Type 0 where
  pub header : Header
  pub header_is : header_in old m.slot ≡ Some header
  pub elsewhere : ChangesOnly (Range m.slot (region_start * block_size) ((region_end header.shape.dir_blocks - region_start) * block_size)) old new
  pub content : MayTake mount.content (copy_content header.shape.dir_blocks (disk_bytes old m.slot)) (copy_content header.shape.dir_blocks (disk_bytes new m.slot))
  pub apart : source.slot ≢ m.slot

-- copies are being brought up, one after another, from a disk whose copy isn't touched
pub data BringsAll (mount : MountReading) (source : Member) (old : Image) : Image → Type 0 where
  none_brought_up : (x : Image) → Same old x → BringsAll mount source old x
  one_more_copy : (x y : Image) (m : Member) → IsAmong mount.members m → BringsAll mount source old x → BringsUp mount m source x y → BringsAll mount source old y

-- copies are being brought up once the record is complete
pub record IsCopying (mount : MountReading) (source : Member) (old new : Image) : Type 0 where
  pub between : Image
  pub recorded : HasRecorded mount old between
  pub row : BringsAll mount source between new

-- While a group is mounted, its epoch is claimed, its record is written anew, and its copies are brought up, in this order.
pub data MayMount (mount : MountReading) (source : Member) (old new : Image) : Type 0 where
  claiming : PutsRow (claim_gate mount.id) mount.members (claim_spelling (mount_claim mount)) old new → MayMount mount source old new
  recording : (between : Image) → HasClaimed mount old between → PutsRow (status_gate mount.id) mount.members (status_spelling mount.next) between new → MayMount mount source old new
  copying : IsCopying mount source old new → MayMount mount source old new

-- It is mounted: each copy that the record names has the content.
pub record HasMounted (mount : MountReading) (source : Member) (old new : Image) : Type 0 where
  pub copying : IsCopying mount source old new
  pub contents : (m : Member) → IsAmong mount.members m → NamesCopy mount.next m → HasTakenContent mount m new

-- the disk is attached, the new record names its copy, and that has the content that is taken
pub record IsSource (mount : MountReading) (m : Member) (image : Image) : Type 0 where
  pub among : IsAmong mount.members m
  pub named : NamesCopy mount.next m
  pub taken : HasTakenContent mount m image

-- the disks of these entries, by number and birth: a member without such an entry is none of the group
abbrev pub members_with_entry : List Entry → List Member → List Member
members_with_entry entries ms = filter (is_of entries) ms

-- What is kept of the mounted group: the record is complete, none was begun after it, and these are the slots of its attached disks.
abbrev pub kept_of : MountReading → Kept
kept_of mount = record { completed = mount.next; begun = []; slots = slots_of (members_with_entry mount.next.entries mount.members) }

-- ---- the laws

-- however many of its slots are looked at, the image may stand for these groups, and for no others
abbrev pub Allows : ℕ → List Group → Image → Type 0
Allows id groups image = (slots : ℕ) → Sound id (disks_in slots image) groups

-- At each moment of a mount the image may stand for the groups that it might stand for before, and for no others.
abbrev pub MountingKeeps : Type 0
MountingKeeps =
    (n : ℕ) (mount : MountReading) (source : Member) (groups : List Group) (old new : Image) → IsMount mount → IsMountRead n mount old → IsSource mount source old
    → Allows mount.id groups old → MayMount mount source old new → Allows mount.id groups new

-- with this record as Status and this content as Directories the disks of so many slots hold the group
abbrev pub DescribesIn : ℕ → ℕ → Image → Status → Content → Group → Type 0
DescribesIn slots id image r c g = Describes (disks_in slots image) (all_members id (disks_in slots image)) (all_members id (disks_in slots image)) r c g

-- what was read and taken stands for the group, however many slots from n on are looked at
abbrev pub MeansOne : ℕ → MountReading → Group → Image → Type 0
MeansOne n mount g image = (slots : ℕ) → n ≤ slots → DescribesIn slots mount.id image mount.read mount.content g

-- Once it is done, the group for which the content stood is held, and it alone.
abbrev pub MountedIsHeld : Type 0
MountedIsHeld =
    (n : ℕ) (mount : MountReading) (source : Member) (groups : List Group) (g : Group) (old new : Image) → IsMount mount → IsMountRead n mount old → IsSource mount source old
    → Allows mount.id groups old → IsAmong groups g → MeansOne n mount g old → HasMounted mount source old new
    → IsHeld n mount.id (g ∷ []) (kept_of mount) new

-- What was read and taken stands for one of the groups, on each image.
abbrev pub ReadMeansOne : Type 0
ReadMeansOne =
    (slots n : ℕ) (mount : MountReading) (source : Member) (groups : List Group) (old : Image) → IsMount mount → IsMountRead n mount old → IsSource mount source old → n ≤ slots
    → Sound mount.id (disks_in slots old) groups → (g : Group) × IsAmong groups g × DescribesIn slots mount.id old mount.read mount.content g

-- Where the image may stand for one group alone, it stands for that one.
abbrev pub OneGroupIsMeant : Type 0
OneGroupIsMeant =
    (n : ℕ) (mount : MountReading) (source : Member) (g : Group) (old : Image) → IsMount mount → IsMountRead n mount old → IsSource mount source old
    → Allows mount.id (g ∷ []) old → MeansOne n mount g old

-- the register of the new record, in its epoch: its members are attached disks
pub record IsRegisterOf (mount : MountReading) (register : Registered) : Type 0 where
  pub group : register.id ≡ mount.id
  pub value : register.value ≡ mount.next
  pub epoch : register.epoch ≡ mount.next.epoch
  pub members : (i : ℕ) (m : Member) → get_or register.members i None ≡ Some m → IsAmong mount.members m

-- Once the record is complete, the register keeps the history that begins with it, whichever histories the images had before.
abbrev pub RecordedHasHistory : Type 0
RecordedHasHistory =
    (slots n : ℕ) (mount : MountReading) (source : Member) (groups : List Group) (register : Registered) (old new : Image) → IsMount mount → IsMountRead n mount old → IsSource mount source old
    → n ≤ slots → Sound mount.id (disks_in slots old) groups → HasRecorded mount old new → IsRegisterOf mount register → HasHistory slots register (Some mount.next) [] new

-- each copy that the new record names has the content that is taken: none lags behind
abbrev pub AllTaken : MountReading → Image → Type 0
AllTaken mount image = (m : Member) → IsAmong mount.members m → NamesCopy mount.next m → HasTakenContent mount m image

-- So it is mounted once the record is complete.
abbrev pub RecordedIsMounted : Type 0
RecordedIsMounted =
    (n : ℕ) (mount : MountReading) (source : Member) (old new : Image) → IsMount mount → IsMountRead n mount old → AllTaken mount old → HasRecorded mount old new → HasMounted mount source old new
