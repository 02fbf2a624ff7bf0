-- Whether a copy of an extent is usable doesn't hang on the inner byte.
use Rattle.std.proofs.Common.{◌≡◌, ⊎_elim, inl, inr, ℕ, ◌+◌, ◌*◌, Bool, true, false, get_or, refl, sym, ap, ◌∙◌, Option, Some, None}
use Rattle.std.specs.Prelude.{if◌then◌else◌, is_some, nat_le, nat_lt}
use Rattle.std.proofs.lemmas.Bool.{false≢true}
use Rattle.asm_base.specs.declared.kinds.ExtentId.{ExtentId}
use Rattle.asm_formats.specs.Items.{Home}
use Rattle.file_extents.specs.extent_copies.declared.extent.Extent.{Extent}
use Rattle.file_extents.specs.extent_copies.Extents.{can_be_read_at}
use Rattle.file_extents.specs.group_engine.Mounts.{MountedGroup, slot_at}
use Rattle.file_extents.specs.group_pieces.declared.copies.Place.{Place}
use Rattle.file_extents.specs.group_pieces.Usable.{AreNone, at_home, extent_of, on_disk, on_slot, place_on_copy, places_at, size_at}

-- of two places each is there where the other is
some_if : (c : Bool) (x y : Option Place) → is_some x ≡ is_some y → is_some (if c then x else None) ≡ is_some (if c then y else None)
some_if true x y same = same
some_if false x y same = refl

module _ (m : MountedGroup) (a b : ℕ) where
  slot_else : (h : Home) (units slot : ℕ) (size : Option ℕ) → is_some (on_slot m h units a slot size) ≡ is_some (on_slot m h units b slot size)
  slot_else h units slot None = refl
  slot_else h units slot (Some size) = some_if (nat_le ((h.unit + units) * m.catalog.shape.au) size) _ _ refl

  disk_else : (h : Home) (units : ℕ) (slot : Option ℕ) → is_some (on_disk m h units a slot) ≡ is_some (on_disk m h units b slot)
  disk_else h units None = refl
  disk_else h units (Some slot) = slot_else h units slot (size_at m.disks h.disk)

  home_else : (home : Option Home) (units : ℕ) → is_some (at_home m home units a) ≡ is_some (at_home m home units b)
  home_else None units = refl
  home_else (Some h) units = some_if (nat_lt h.disk 64) _ _ (disk_else h units (slot_at m.disks h.disk))

  place_else : (x : Extent) (k : ℕ) → is_some (place_on_copy m x a k) ≡ is_some (place_on_copy m x b k)
  place_else x k = some_if (can_be_read_at m.register.value.entries x k) _ _ (home_else (get_or x.homes k None) x.units)

there : (o : Option Place) → is_some o ≡ true → (p : Place) × (Some p ≡ o)
there (Some p) is = (p, refl)
there None is = absurd (false≢true is)

-- the same copy at another inner byte
other_place : (m : MountedGroup) (a b : ℕ) (x : Extent) (k : ℕ) (p : Place) → Some p ≡ place_on_copy m x b k → (q : Place) × (Some q ≡ place_on_copy m x a k)
other_place m a b x k p is = there (place_on_copy m x a k) (place_else m a b x k ∙ ap (λ (o : Option Place). is_some o) (sym is))

pub lost_at : (m : MountedGroup) (x : ExtentId) (a b : ℕ) → AreNone (places_at m x a) → AreNone (places_at m x b)
lost_at m x a b none p among =
    let e : Extent = extent_of m x in
    ⊎_elim
    (λ (first : Some p ≡ place_on_copy m e b 0). let q = other_place m a b e 0 p first in none q.0 (inl q.1))
    (λ more. ⊎_elim
    (λ (second : Some p ≡ place_on_copy m e b 1). let q = other_place m a b e 1 p second in none q.0 (inr (inl q.1)))
    (λ last. ⊎_elim
    (λ (third : Some p ≡ place_on_copy m e b 2). let q = other_place m a b e 2 p third in none q.0 (inr (inr (inl q.1))))
    (λ no. no)
    last)
    more)
    among
