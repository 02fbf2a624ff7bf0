-- An image is attached as a disk of a group.
use Rattle.std.proofs.Common.{◌≡◌, ◌⊎◌, ⊎_elim, inl, inr, ℕ, zero, suc, Bool, true, false, ◌==◌, List, [], ◌∷◌, get_or, set, Option, Some, None, refl, sym, ap, subst, ◌∙◌, arith, unwrap_or}
use Rattle.std.specs.Prelude.{◌||◌, IsSome}
use Rattle.std.specs.Option.{option_map}
use Rattle.std.proofs.lemmas.Bool.{eq-eqb, true≢false}
use Rattle.std.proofs.lemmas.Option.{same_Some}
use Rattle.bay.specs.State.{BayState}
use Rattle.new_groups.specs.mounted_groups.Holding.{IsHeldSlot}
use Rattle.new_groups.proofs.mounted_groups.Staying.{stays_refl}
use Rattle.file_extents.specs.group_engine.Mounts.{IsOwn, IsWhole, MountedGroup, Takes, slot_at}
use Rattle.file_extents.specs.group_engine.declared.attached.Attached.{Attached}
use Rattle.new_groups.proofs.group_recovery.Searches.{sector_of}
use Rattle.status_register.specs.declared.member.Member.{Member}
use Rattle.disk_joining.specs.Attaching.{IsAttachable, has_disk_in_slot, member_of_image}
use Rattle.file_extents.specs.group_engine.Members.{HasImage, with_attached_disk}
use Rattle.disk_joining.specs.Taking.{IsApart, TakesIn}
use Rattle.disk_joining.specs.declared.attaching.DiskImage.{DiskImage}
use Rattle.disk_joining.proofs.Takings.{spares_none}

-- ---- slots

or_right : (a b : Bool) → b ≡ true → (a || b) ≡ true
or_right true b is = refl
or_right false b is = is

or_left : (a b : Bool) → a ≡ true → (a || b) ≡ true
or_left true b is = refl
or_left false b is = absurd cc

slot_found : (disks : List (Option Attached)) (d slot : ℕ) → slot_at disks d ≡ Some slot → has_disk_in_slot disks slot ≡ true
slot_found [] d slot is = absurd cc
slot_found (None ∷ disks) zero slot is = absurd cc
slot_found (None ∷ disks) (suc d) slot is = slot_found disks d slot is
slot_found (Some a ∷ disks) zero slot is =
    let same : a.slot ≡ slot = cc in
    or_left (a.slot == slot) (has_disk_in_slot disks slot) (eq-eqb a.slot slot same)
slot_found (Some a ∷ disks) (suc d) slot is = or_right (a.slot == slot) (has_disk_in_slot disks slot) (slot_found disks d slot is)

pub not_own : (m : MountedGroup) (slot : ℕ) → IsWhole m → has_disk_in_slot m.disks slot ≡ false → IsOwn m slot → ⊥
not_own m slot whole none own =
    let at : slot_at m.disks own.0 ≡ Some own.1.slot = whole.disks own.0 ∙ ap (option_map (λ (x : Member). x.slot)) own.2 in
    true≢false (sym (slot_found m.disks own.0 slot (at ∙ ap Some (sym own.3))) ∙ none)

-- ---- what is attached

set_some : (xs : List (Option Member)) (i j : ℕ) (x y : Member) → get_or (set xs i (Some x)) j None ≡ Some y → (get_or xs j None ≡ Some y) ⊎ (x ≡ y)
set_some [] i j x y is = inl is
set_some (k ∷ xs) zero zero x y is = inr (same_Some x y is)
set_some (k ∷ xs) zero (suc j) x y is = inl is
set_some (k ∷ xs) (suc i) zero x y is = inl is
set_some (k ∷ xs) (suc i) (suc j) x y is = set_some xs i j x y is

module _ (held : List ℕ) (m : MountedGroup) (s : BayState) (image : DiskImage) (is : IsAttachable held m image) where
  abbrev x : Member
  x = member_of_image m image

  pub has_image : IsWhole m → s.attached image.slot ≡ Some image.size → HasImage x image.size s
  has_image whole attached = record {
    slots = record {
      attached = subst IsSome (sym attached) refl;
      sector_size = sector_of m.catalog.shape whole.shape;
      long = omega (arith, is.long, ap (λ (o : Option ℕ). unwrap_or o 0) attached);
    };
    attached = attached;
  }

  pub attach_taken : IsApart held m → Takes (with_attached_disk m x image.size) s → TakesIn held m (with_attached_disk m x image.size) s s
  attach_taken apart takes = record {
    name = refl;
    id = refl;
    shape = refl;
    own = λ slot own on. ⊎_elim
        (λ was. apart slot (own.0, own.1, was, own.3) on)
        (λ new. is.free (subst (IsHeldSlot held) (own.3 ∙ ap (λ (k : Member). k.slot) (sym new)) on))
        (set_some m.register.members x.number own.0 x own.1 own.2);
    attached = stays_refl s;
    spares = spares_none held s;
    whole = λ mounted. (takes mounted).0;
    ready = λ mounted. (takes mounted).1;
  }
