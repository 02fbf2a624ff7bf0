-- A mounted group to which an image is attached as one of its disks, and one of which a disk is attached no more.
use Rattle.std.specs.Prelude.{◌≡◌, ◌⊎◌, ℕ, Bool, true, false, [], ◌==◌, get_or, Option, Some, None}
use Rattle.std.specs.List.{list_any}
use Rattle.bay.specs.State.{BayState}
use Rattle.bay.specs.Moments.{NowOnly}
use Rattle.asm_group.specs.Group.{Group}
use Rattle.asm_images.specs.Kept.{Kept}
use Rattle.status_register.specs.SurveyLaws.{IsMemberOn}
use Rattle.status_register.specs.declared.member.Member.{Member}
use Rattle.group_engine.specs.declared.flight.Flight.{Flight}
use Rattle.group_engine.specs.Members.{with_attached_disk, without_attached_disk}
use Rattle.group_engine.specs.Mounts.{IsMounted, MountedGroup, Mounts, Takes}

-- the slot is that of the disk at a place
abbrev pub is_at : ℕ → Option Member → Bool
is_at slot None = false
is_at slot (Some k) = slot == k.slot

-- an attached disk has the slot
abbrev pub has_member_in_slot : MountedGroup → ℕ → Bool
has_member_in_slot m slot = list_any (is_at slot) m.register.members

-- what is kept of a mounted group: its record, none that was begun, and the slots of its attached disks
abbrev pub kept_of : MountedGroup → Kept
kept_of m = record { completed = m.register.value; begun = []; slots = has_member_in_slot m }

-- No other is kept of it.
abbrev pub MountedIsKept : BayState → Type 0
MountedIsKept s = (n : ℕ) (m : MountedGroup) (g : Group) (kept : Kept) → Mounts n m s g kept → kept ≡ kept_of m

-- A group that takes calls is mounted with an image more, which in each image that a stop may leave now is the member's: no disk changes.
abbrev pub AttachedMounts : BayState → Type 0
AttachedMounts s =
    (n : ℕ) (m : MountedGroup) (g : Group) (kept : Kept) (x : Member) (size : ℕ) → Mounts n m s g kept → IsMounted m → NowOnly s (λ image. IsMemberOn n m.register.id image x)
    → Takes (with_attached_disk m x size) s → Mounts n (with_attached_disk m x size) s g (kept_of (with_attached_disk m x size))

-- Where no disk was attached at the member's number, the slots that were attached are so still, and no other is but the member's.
pub record AddsSlot (m : MountedGroup) (x : Member) (new : MountedGroup) : Type 0 where
  pub still : get_or m.register.members x.number None ≡ None → (slot : ℕ) → has_member_in_slot m slot ≡ true → has_member_in_slot new slot ≡ true
  pub alone : (slot : ℕ) → has_member_in_slot new slot ≡ true → (slot ≡ x.slot) ⊎ (has_member_in_slot m slot ≡ true)

abbrev pub AttachedAddsSlot : Type 0
AttachedAddsSlot = (m : MountedGroup) (x : Member) (size : ℕ) → AddsSlot m x (with_attached_disk m x size)

-- It is mounted without a disk, where it takes the next call without it.
abbrev pub DetachedMounts : BayState → Type 0
DetachedMounts s =
    (n : ℕ) (m : MountedGroup) (g : Group) (kept : Kept) (d : ℕ) → Mounts n m s g kept → IsMounted m → Takes (without_attached_disk m d) s → Mounts n (without_attached_disk m d) s g (kept_of (without_attached_disk m d))

-- No slot is attached then that wasn't.
abbrev pub DetachedAddsNone : Type 0
DetachedAddsNone = (m : MountedGroup) (d slot : ℕ) → has_member_in_slot (without_attached_disk m d) slot ≡ true → has_member_in_slot m slot ≡ true

-- ---- the move that is on its way

-- With another move on its way, or none, a group is mounted as before.
abbrev pub OtherFlightsMount : BayState → Type 0
OtherFlightsMount s = (n : ℕ) (m : MountedGroup) (g : Group) (kept : Kept) (f : Option Flight) → Mounts n m s g kept → Mounts n (record m { flight = f }) s g kept
