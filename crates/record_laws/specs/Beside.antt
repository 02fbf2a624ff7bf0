-- A mounted group while a disk changes that isn't attached to it, also one that is a member of its id.
use Rattle.std.specs.Prelude.{◌≡◌, ℕ, List, [], ◌∷◌, Option, Some}
use Rattle.bay.specs.Image.{Image}
use Rattle.bay.specs.State.{BayState}
use Rattle.bay.specs.Moments.{LeavesOnly, NowOnly, Runs}
use Rattle.asm_group.specs.Group.{Group}
use Rattle.asm_formats.specs.Among.{IsAmong}
use Rattle.asm_formats.specs.Following.{Holder, sets}
use Rattle.asm_formats.specs.Header.{Header}
use Rattle.asm_formats.specs.Status.{Entry, Status, entry_of}
use Rattle.asm_images.specs.Bridge.{ChangesSlot, disks_in}
use Rattle.asm_images.specs.Kept.{Kept, header_in}
use Rattle.asm_images.specs.Sound.{SoundBy}
use Rattle.group_engine.specs.Commits.{StandsIn}
use Rattle.group_engine.specs.Frames.{KeepsOwn}
use Rattle.group_engine.specs.Mounts.{IsOwn, MountedGroup, Mounts}
use Rattle.group_engine.specs.Own.{KeepsGroup}
use Rattle.status_register.specs.SurveyLaws.{IsMemberOn}
use Rattle.status_register.specs.declared.member.Member.{Member}

-- What the disks hold of the group by its record they hold after the step, however many of the slots are looked at.
abbrev pub StaysSound : MountedGroup → Group → Image → Image → Type 0
StaysSound m g x y =
    (slots : ℕ) → SoundBy m.register.id (disks_in slots x) (g ∷ []) (Some m.register.value) [] → SoundBy m.register.id (disks_in slots y) (g ∷ []) (Some m.register.value) []

-- no member of the id is in the slot that is a disk of one of the record's sets
abbrev pub IsNoHolder : ℕ → Status → ℕ → Image → Type 0
IsNoHolder id r slot image = (h : Header) → header_in image slot ≡ Some h → h.id ≡ id → (set : List Holder) → IsAmong (sets r) set → IsAmong set (h.number, h.birth) → ⊥

-- No member of the id is in the slot that has an entry in the record.
abbrev pub HasNoEntry : ℕ → Status → ℕ → Image → Type 0
HasNoEntry id r slot image = (h : Header) → header_in image slot ≡ Some h → h.id ≡ id → (e : Entry) → entry_of r.entries h.number ≡ Some e → e.birth ≡ h.birth → ⊥

-- So none is a disk of its sets.
abbrev pub NoEntryIsNoHolder : Type 0
NoEntryIsNoHolder = (id : ℕ) (r : Status) (slot : ℕ) (image : Image) → HasNoEntry id r slot image → IsNoHolder id r slot image

-- Such steps change the disk in a slot alone, which isn't attached to the group: what is held of it stays so, and it is no disk of its sets.
pub record ChangesBeside (m : MountedGroup) (g : Group) (slot : ℕ) (leads : Image → Image → Type 0) (s : BayState) : Type 0 where
  pub other : IsOwn m slot → ⊥
  pub alone : (x y : Image) → leads x y → ChangesSlot slot x y
  pub sound : (x y : Image) → s.leaves s.calls x → leads x y → StaysSound m g x y
  pub no_holder : NowOnly s (IsNoHolder m.register.id m.register.value slot)

-- Each image of each moment is held for the group, and it is mounted as before.
pub record StaysBeside (n : ℕ) (m : MountedGroup) (s t : BayState) (g : Group) (kept : Kept) : Type 0 where
  pub moments : LeavesOnly s t (StandsIn n m.register.id (g ∷ []) kept)
  pub mounts : Mounts n m t g kept

-- A group stays mounted over calls that change such a disk, where what is attached to it stays so.
abbrev pub MountsBeside : (ℕ → Type 0) → (Image → Image → Type 0) → BayState → BayState → Type 0
MountsBeside on leads s t =
    (n : ℕ) (m : MountedGroup) (g : Group) (kept : Kept) (slot : ℕ) → Mounts n m s g kept → KeepsOwn m s t → Runs on leads s t → ChangesBeside m g slot leads s
    → StaysBeside n m s t g kept

-- ---- what such a disk shows

-- Over a call of a group a disk that isn't attached to it has the header that it had, or has none still.
abbrev pub HeaderStaysBeside : BayState → BayState → Type 0
HeaderStaysBeside s t =
    (a b : MountedGroup) (slot : ℕ) (o : Option Header) → KeepsGroup a b s t → (IsOwn a slot → ⊥) → NowOnly s (λ image. header_in image slot ≡ o)
    → NowOnly t (λ image. header_in image slot ≡ o)

-- So a member that isn't attached to the group is a member still.
abbrev pub MemberStaysBeside : BayState → BayState → Type 0
MemberStaysBeside s t =
    (n id : ℕ) (a b : MountedGroup) (x : Member) → KeepsGroup a b s t → (IsOwn a x.slot → ⊥) → NowOnly s (λ image. IsMemberOn n id image x)
    → NowOnly t (λ image. IsMemberOn n id image x)
