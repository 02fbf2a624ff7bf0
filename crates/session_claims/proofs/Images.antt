-- Images that stay, as far as what they stand for goes.
use Rattle.std.proofs.Common.{◌≡◌, inl, inr, ℕ, suc, true, List, [], ◌∷◌, ◌++◌, Option, Some, refl, sym, subst, arith}
use Rattle.std.specs.List.{flat_map}
use Rattle.bay.specs.Image.{Image, Same}
use Rattle.bay.specs.State.{BayState}
use Rattle.asm_group.specs.Group.{Group}
use Rattle.asm_formats.specs.Status.{Status}
use Rattle.asm_formats.specs.Among.{IsAmong}
use Rattle.asm_images.specs.Bridge.{disks_in}
use Rattle.asm_images.specs.Kept.{IsHeld, IsMemberIn, Kept}
use Rattle.asm_images.specs.Members.{all_members, within}
use Rattle.asm_images.specs.Sound.{SoundBy, Sound}
use Rattle.asm_images.proofs.Bridges.{same_is_same}
use Rattle.asm_images.proofs.Held.{held_stands}
use Rattle.asm_images.proofs.Membership.{among_within}
use Rattle.asm_images.proofs.OneContent.{found_is_held}
use Rattle.asm_world.specs.Between.{also, groups_between, with_span_free}
use Rattle.asm_world.specs.Command.{Command}
use Rattle.asm_world.specs.World.{World, groups_of}
use Rattle.mounted_groups.specs.Creating.{HasMember}
use Rattle.mounted_groups.specs.group_recovery.Mounting.{Allows}
use Rattle.mounted_groups.proofs.Outsiders.{widened}
use Rattle.mounted_groups.specs.group_engine.Mounts.{MountedGroup}
use Rattle.mounted_groups.proofs.group_engine.Slots.{member_seen, member_there}
use Rattle.mounted_groups.specs.status_register.Surveys.{disk_in}
use Rattle.session_claims.specs.Claims.{IsMountedAs, IsSoundBy, IsStanding}

pub same_allows : (id : ℕ) (groups : List Group) (x y : Image) → Same x y → Allows id groups x → Allows id groups y
same_allows id groups x y same allows = λ slots. let P : List (List ℕ) → Type 0 = λ disks. Sound id disks groups in subst P (sym (same_is_same slots x y same)) (allows slots)

pub same_member : (id : ℕ) (x y : Image) → Same x y → HasMember id y → HasMember id x
same_member id x y same has = record {
  slots = has.slots;
  member = has.member;
  is = let P : List (List ℕ) → Type 0 = λ disks. IsAmong (all_members id disks) has.member in subst P (same_is_same has.slots x y same) has.is;
}

pub same_sound : (id : ℕ) (groups : List Group) (completed : Option Status) (begun : List Status) (x y : Image) → Same x y → IsSoundBy id groups completed begun x → IsSoundBy id groups completed begun y
same_sound id groups completed begun x y same sound slots = let P : List (List ℕ) → Type 0 = λ disks. SoundBy id disks groups completed begun in subst P (sym (same_is_same slots x y same)) (sound slots)

pub more_allows : (id : ℕ) (groups more : List Group) (x : Image) → ((g : Group) → IsAmong groups g → IsAmong more g) → Allows id groups x → Allows id more x
more_allows id groups more x wider allows = λ slots. widened id (disks_in slots x) groups more (allows slots) wider

pub among-front : (groups more : List Group) (g : Group) → IsAmong groups g → IsAmong (groups ++ more) g
among-front [] more g is = absurd is
among-front (h ∷ groups) more g (inl e) = inl e
among-front (h ∷ groups) more g (inr is) = inr (among-front groups more g is)

pub among-behind : (groups more : List Group) (g : Group) → IsAmong more g → IsAmong (groups ++ more) g
among-behind [] more g is = is
among-behind (h ∷ groups) more g is = inr (among-behind groups more g is)

-- ---- groups of the worlds between

pub before_between : (w w' : World) (command : Command) (id : ℕ) (g : Group) → IsAmong (groups_of w id) g → IsAmong (groups_between w command w' id) g
before_between w w' command id g is = among-front (groups_of w id) _ g is

pub after_between : (w w' : World) (command : Command) (id : ℕ) (g : Group) → IsAmong (groups_of w' id) g → IsAmong (groups_between w command w' id) g
after_between w w' command id g is = among-behind (groups_of w id) _ g (among-front (groups_of w' id) _ g is)

-- of a write the world with the span Free is one of them
pub free_between : (w w' v : World) (command : Command) (id : ℕ) (g : Group) → with_span_free w command ≡ Some v → IsAmong (groups_of v id) g → IsAmong (groups_between w command w' id) g
free_between w w' v command id g free is =
    among-behind (groups_of w id) _ g
    (among-behind (groups_of w' id) _ g
    (subst (λ (x : Option World). IsAmong (flat_map (λ y. groups_of y id) (also x)) g) (sym free) (among-front (groups_of v id) [] g is)))

-- ---- members by their slots

pub has_slot : (id : ℕ) (x : Image) → HasMember id x → (slot : ℕ) × IsMemberIn id x slot
has_slot id x has = let seen = member_seen id has.slots x has.member has.is in (has.member.slot, (has.member.header, seen.header, seen.group))

pub slot_has : (id : ℕ) (x : Image) (slot : ℕ) → IsMemberIn id x slot → HasMember id x
slot_has id x slot has = record {
  slots = suc slot;
  member = record { slot = slot; header = has.0; disk = disk_in x slot };
  is = member_there id (suc slot) slot x has.0 (omega arith) has.1 has.2;
}

-- ---- a mounted group

-- of one that is held the disks hold the group
pub held_allows : (n id : ℕ) (groups : List Group) (kept : Kept) (x : Image) → IsHeld n id groups kept x → Allows id groups x
held_allows n id groups kept x held = λ slots. record { completed = _; begun = kept.begun; holds = held.sound slots }

-- it has a member
pub held_has : (n id : ℕ) (groups : List Group) (kept : Kept) (x : Image) → IsHeld n id groups kept x → HasMember id x
held_has n id groups kept x held =
    let ms = all_members id (disks_in n x) in
    let copy = found_is_held held.standing.record_ (within kept.slots ms) held.standing.content held.standing.directories_is in
    record { slots = n; member = copy.0; is = among_within kept.slots ms copy.0 copy.1 }

-- it is there with all disks
pub all_stand : (n id : ℕ) (m : MountedGroup) (groups : List Group) (bay : BayState) (k : IsMountedAs n id m groups bay) (x : Image) → IsHeld n m.register.id (k.group ∷ []) k.kept x → IsStanding n id x
all_stand n id m groups bay k x held =
    subst (λ (i : ℕ). IsStanding n i x) k.same (held_stands n m.register.id (k.group ∷ []) k.kept x (λ any. true) held k.mounts.begun (λ slot has. refl))
