-- Which disks failed, by the places of a piece.
use Rattle.std.proofs.Common.{◌≡◌, inl, inr, ⊎_elim, ℕ, ◌<◌, ◌≤◌, Bool, true, false, List, [], ◌∷◌, refl, sym, ap, subst, ◌∙◌, Option, Some, None, arith}
use Rattle.std.specs.Prelude.{◌&&◌}
use Rattle.std.proofs.lemmas.Bool.{and_parts, true≢false}
use Rattle.std.proofs.lemmas.Option.{none-some, same_Some}
use Rattle.bay.specs.State.{BayState}
use Rattle.bay.specs.Counts.{Rose}
use Rattle.asm_base.specs.declared.kinds.ExtentId.{ExtentId}
use Rattle.asm_formats.specs.Sets.{has_bit}
use Rattle.asm_formats.specs.Among.{IsAmong}
use Rattle.record_laws.specs.group_engine.Mounts.{MountedGroup, slot_at}
use Rattle.group_pieces.specs.declared.copies.Place.{Place}
use Rattle.group_pieces.specs.Copies.{AllFailed, HasOnlyFailedPlaces}
use Rattle.group_pieces.specs.Faults.{AreRisen, IsFault}
use Rattle.group_pieces.specs.Usable.{extent_of, first_disk, places_at}
use Rattle.group_pieces.specs.Writes.{SomeTook, have_failed}
use Rattle.group_pieces.proofs.Places.{some_place}

-- ---- lists of places

pub record IsFirst (places : List (Option Place)) (d : ℕ) : Type 0 where
  pub place : Place
  pub among : IsAmong places (Some place)
  pub disk : place.disk ≡ d

pub first_among : (places : List (Option Place)) (d : ℕ) → first_disk places ≡ Some d → IsFirst places d
first_among [] d is = absurd (none-some d is)
first_among (None ∷ places) d is = let f = first_among places d is in record { place = f.place; among = inr f.among; disk = f.disk }
first_among (Some p ∷ places) d is = record { place = p; among = inl refl; disk = same_Some p.disk d is }

pub each_failed : (failed : ℕ) (places : List (Option Place)) → have_failed failed places ≡ true → (p : Place) → IsAmong places (Some p) → has_bit failed p.disk ≡ true
each_failed failed [] all p among = absurd among
each_failed failed (None ∷ places) all p among = ⊎_elim (λ (none : Some p ≡ None). absurd (none-some p (sym none))) (λ later. each_failed failed places all p later) among
each_failed failed (Some q ∷ places) all p among =
    let both = and_parts (has_bit failed q.disk) (have_failed failed places) all in
    ⊎_elim (λ (same : Some p ≡ Some q). ap (λ (r : Place). has_bit failed r.disk) (same_Some p q same) ∙ both.0) (λ later. each_failed failed places both.1 p later) among

pub some_took : (failed : ℕ) (places : List (Option Place)) → have_failed failed places ≡ false → SomeTook places failed
some_took failed [] none = absurd (true≢false none)
some_took failed (None ∷ places) none = let f = some_took failed places none in (f.0, inr f.1, f.2)
some_took failed (Some q ∷ places) none = go (has_bit failed q.disk) refl none (some_took failed places)
  where
    go : (b : Bool) → has_bit failed q.disk ≡ b → (b && have_failed failed places) ≡ false → (have_failed failed places ≡ false → SomeTook places failed) → SomeTook (Some q ∷ places) failed
    go true is rest later = let f = later rest in (f.0, inr f.1, f.2)
    go false is rest later = (q, inl refl, is)

-- ---- the places of a piece

module _ (m : MountedGroup) (x : ExtentId) (inner : ℕ) where
  pub place_slot : (p : Place) → IsAmong (places_at m x inner) (Some p) → slot_at m.disks p.disk ≡ Some p.slot
  place_slot p among = let place = some_place m (extent_of m x) inner p among in ap (slot_at m.disks) place.at.disk ∙ place.at.slot

  -- the disks of the set failed
  pub are_risen : (failed : ℕ) (s t : BayState) → HasOnlyFailedPlaces (places_at m x inner) failed s t → AreRisen m failed s t
  are_risen failed s t alone k small is = let f = alone k small is in (f.0.slot, ap (slot_at m.disks) (sym f.2) ∙ place_slot f.0 f.1, f.3)

  -- where each of the disks is in the set, all slots failed
  pub all_failed : (failed : ℕ) (s t : BayState) → ((p : Place) → IsAmong (places_at m x inner) (Some p) → p.disk < 64) → HasOnlyFailedPlaces (places_at m x inner) failed s t → have_failed failed (places_at m x inner) ≡ true
      → AllFailed (places_at m x inner) s t
  all_failed failed s t small alone all p among =
      let f = alone p.disk (small p among) (each_failed failed (places_at m x inner) all p among) in
      let same : f.0.slot ≡ p.slot = same_Some f.0.slot p.slot (sym (place_slot f.0 f.1) ∙ ap (slot_at m.disks) f.2 ∙ place_slot p among) in
      subst (λ (k : ℕ). Rose (s.faults k) (t.faults k)) same f.3

  -- a fault of all of them
  pub is_fault : (s t : BayState) (d : ℕ) → AllFailed (places_at m x inner) s t → first_disk (places_at m x inner) ≡ Some d → IsFault m x inner s t d
  is_fault s t d all first =
      let f = first_among (places_at m x inner) d first in
      record {
        all = all;
        first = first;
        rose = (f.place.slot, ap (slot_at m.disks) (sym f.disk) ∙ place_slot f.place f.among, all f.place f.among);
      }

-- what failed by then has failed later
pub rose_later : (m : MountedGroup) (failed : ℕ) (s t u : BayState) → ((k : ℕ) → t.faults k ≤ u.faults k) → AreRisen m failed s t → AreRisen m failed s u
rose_later m failed s t u later risen k small is = let f = risen k small is in (f.0, f.1, omega (arith, later f.0, f.2))
