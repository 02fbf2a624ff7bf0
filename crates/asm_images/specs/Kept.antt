-- What is kept of a group while it is mounted: its history in the register, and where its attached disks are.
use Rattle.std.specs.Prelude.{◌≡◌, ℕ, ◌≤◌, Bool, true, false, List, [], Option, Some, IsTrue}
use Rattle.bay.specs.Image as bay
use Rattle.bay.specs.Image.{Same}
use Rattle.asm_group.specs.Group.{Group}
use Rattle.asm_formats.specs.Header.{Header}
use Rattle.asm_formats.specs.Content.{Content}
use Rattle.asm_formats.specs.Status.{Status}
use Rattle.asm_formats.specs.Metadata.{header_of}
use Rattle.asm_images.specs.Bridge.{disk_bytes, disks_in, ChangesSlot}
use Rattle.asm_formats.specs.Among.{IsAmong}
use Rattle.asm_images.specs.Directories.{IsNamed}
use Rattle.asm_images.specs.Members.{ImageBytes, Member, all_members, within}
use Rattle.asm_images.specs.Register.{is_enough}
use Rattle.asm_images.specs.Sound.{SoundBy}
use Rattle.asm_images.specs.Stands.{Standing}

-- the record that was last completed, those begun after it, and the slots of the attached disks
pub record Kept : Type 0 where
  pub completed : Status
  pub begun : List Status
  pub slots : ℕ → Bool

-- the open header of the disk in a slot
abbrev pub header_in : bay.Image → ℕ → Option Header
header_in image slot = header_of (disk_bytes image slot)

-- the disk in a slot is a member of the id: its open header names it
abbrev pub IsMemberIn : ℕ → bay.Image → ℕ → Type 0
IsMemberIn id image slot = (h : Header) × (header_in image slot ≡ Some h) × (h.id ≡ id)

-- An image of a mounted group, where the program has n slots, and `kept.slots` are those of the group's attached disks. Other disks may be
-- members too: nothing is known of them.
pub record IsHeld (n id : ℕ) (groups : List Group) (kept : Kept) (image : bay.Image) : Type 0 where
  -- it stands for the groups by this history, however many of its slots are looked at
  pub sound : (slots : ℕ) → SoundBy id (disks_in slots image) groups (Some kept.completed) kept.begun
  -- with the attached disks alone, the group's Status and directories are there
  pub standing : Standing id (disks_in n image) kept.slots
  -- the attached disks are members
  pub there : (slot : ℕ) → kept.slots slot ≡ true → IsMemberIn id image slot

-- ---- laws

-- Where so many slots are sound by a history, fewer are, by the same one and for the same groups.
abbrev pub FewerSlotsAreSound : Type 0
FewerSlotsAreSound =
    (id few many : ℕ) (image : bay.Image) (groups : List Group) (completed : Option Status) (begun : List Status) → few ≤ many
    → SoundBy id (disks_in many image) groups completed begun → SoundBy id (disks_in few image) groups completed begun

-- Where the completed record is the only one that counts, Status and directories are there for each set of disks that is enough for it and
-- has one of its copies.
abbrev pub CompleteStands : Type 0
CompleteStands =
    (id : ℕ) (image : ImageBytes) (groups : List Group) (s : Status) (slots : ℕ → Bool) (m : Member) (c : Content) → SoundBy id image groups (Some s) [] → s.gone ≡ false
    → IsTrue (is_enough s (within slots (all_members id image))) → IsAmong (within slots (all_members id image)) m → IsNamed s m.header → m.disk.content ≡ Some c
    → Standing id image slots

-- A group that rests, with no record begun after the completed one, has Status and directories with the attached disks and any others.
abbrev pub HeldStands : Type 0
HeldStands =
    (n id : ℕ) (groups : List Group) (kept : Kept) (image : bay.Image) (slots : ℕ → Bool) → IsHeld n id groups kept image → kept.begun ≡ []
    → ((slot : ℕ) → kept.slots slot ≡ true → slots slot ≡ true) → Standing id (disks_in n image) slots

-- The same disks are held.
abbrev pub SameIsHeld : Type 0
SameIsHeld = (n id : ℕ) (groups : List Group) (kept : Kept) (old new : bay.Image) → Same old new → IsHeld n id groups kept old → IsHeld n id groups kept new

-- So are the others, where a disk changes that isn't attached to the group, also one that is a member: what it does to the history is enough.
abbrev pub BystandersAreHeld : Type 0
BystandersAreHeld =
    (n id slot : ℕ) (groups : List Group) (kept : Kept) (old new : bay.Image) → ChangesSlot slot old new → kept.slots slot ≡ false
    → ((slots : ℕ) → SoundBy id (disks_in slots old) groups (Some kept.completed) kept.begun → SoundBy id (disks_in slots new) groups (Some kept.completed) kept.begun)
    → IsHeld n id groups kept old → IsHeld n id groups kept new
