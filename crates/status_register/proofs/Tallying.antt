-- One member more is read.
use Rattle.std.proofs.Common.{◌≡◌, inl, inr, ⊎_elim, ℕ, zero, suc, ◌+◌, ◌<◌, ◌≤◌, List, [], ◌∷◌, ◌++◌, length, get_or, Option, refl, sym, ap, subst, ◌∙◌, arith}
use Rattle.std.proofs.lemmas.List.{length-append}
use Rattle.bay.specs.Image.{Image, Same, window}
use Rattle.bay.specs.State.{BayState, KeepsAttached}
use Rattle.bay.specs.Counts.{Rose}
use Rattle.bay.specs.Moments.{Runs}
use Rattle.bay.proofs.Images.{window-same}
use Rattle.asm_formats.specs.Among.{IsAmong}
use Rattle.asm_formats.specs.Status.{Status}
use Rattle.asm_formats.specs.Metadata.{metadata}
use Rattle.asm_formats.specs.Damage.{body_damage}
use Rattle.asm_images.specs.Bridge.{disk_bytes}
use Rattle.asm_images.specs.Members.{claims_of_group, of_group}
use Rattle.asm_images.specs.Register.{greatest}
use Rattle.bay.specs.Told.{Told}
use Rattle.status_register.specs.Surveys.{AreRead, none_yet, one_read, one_failed, DisksSay, greatest_epoch}
use Rattle.status_register.specs.Tallies.{TalliesMember, HaveSlots, SlotsSay}
use Rattle.status_register.specs.Places.{HasSlots}
use Rattle.status_register.specs.declared.member.Member.{Member}
use Rattle.status_register.specs.declared.tally.Tally.{Tally}
use Rattle.status_register.proofs.Filling.{still_slots}
use Rattle.bay.proofs.Telling.{told_before, told_later}
use Rattle.status_register.proofs.Joining.{says_more}

-- the disks whose slots rose between two moments
abbrev pub RoseAt : BayState → BayState → ℕ → Type 0
RoseAt s t slot = Rose (s.faults slot) (t.faults slot)

pub still_read : (failed worse : ℕ → Type 0) → ((slot : ℕ) → failed slot → worse slot) → (ms read : List Member) → AreRead failed ms read → AreRead worse ms read
still_read failed worse more ms read none_yet = none_yet
still_read failed worse more ms read (one_read before earlier m are) = one_read before earlier m (still_read failed worse more before earlier are)
still_read failed worse more ms read (one_failed before earlier m rose are) = one_failed before earlier m (more m.slot rose) (still_read failed worse more before earlier are)

pub same_bytes : (slot : ℕ) (x y : Image) → Same x y → disk_bytes y slot ≡ disk_bytes x slot
same_bytes slot x y same =
    ap (λ (n : ℕ). window (y.byte slot) 0 n) (same.size slot) ∙ window-same (x.byte slot) (y.byte slot) 0 (x.size slot) (λ k low high. same.byte slot k)

pub same_says : (id slot epoch : ℕ) (status : Option Status) (block : Option ℕ) (x y : Image) → Same x y → SlotsSay id slot epoch status block y → SlotsSay id slot epoch status block x
same_says id slot epoch status block x y same says =
    let bytes = sym (same_bytes slot x y same) in
    record {
      epoch_is = ap (λ (b : List ℕ). greatest_epoch (claims_of_group id (metadata b).claims)) bytes ∙ says.epoch_is;
      status_is = ap (λ (b : List ℕ). greatest (of_group id (metadata b).statuses)) bytes ∙ says.status_is;
      damage_is = ap body_damage bytes ∙ says.damage_is;
    }

module _ (s m t : BayState) {early later : ℕ → Type 0} (first : Runs early Same s m) (next : Runs later Same m t) (id : ℕ) (member : Member) (old new : Tally) (adds : TalliesMember id member m t old new) where
  rose_on : (slot : ℕ) → RoseAt s m slot → RoseAt s t slot
  rose_on slot rose = omega (arith, rose, next.faults slot)

  rose_over : (slot : ℕ) → RoseAt m t slot → RoseAt s t slot
  rose_over slot rose = omega (arith, rose, first.faults slot)

  pub adds_read : (ms : List Member) → AreRead (RoseAt s m) ms old.read → AreRead (RoseAt s t) (ms ++ member ∷ []) new.read
  adds_read ms are =
      let before = still_read (RoseAt s m) (RoseAt s t) rose_on ms old.read are in
      ⊎_elim
      (λ failed. subst (λ (y : Tally). AreRead (RoseAt s t) (ms ++ member ∷ []) y.read) (sym failed.1) (one_failed ms old.read member (rose_over member.slot failed.0) before))
      (λ found. subst (λ (y : Tally). AreRead (RoseAt s t) (ms ++ member ∷ []) y.read) (sym found.4) (one_read ms old.read member before))
      adds

  pub adds_few : length new.read ≤ length old.read + 1
  adds_few = ⊎_elim
      (λ failed. subst (λ (y : Tally). length y.read ≤ length old.read + 1) (sym failed.1) (omega arith))
      (λ found. subst (λ (y : Tally). length y.read ≤ length old.read + 1) (sym found.4) (omega (arith, length-append old.read (member ∷ []))))
      adds

  pub adds_says : Told s m (DisksSay id old.read old.epoch old.status old.damage) → Told s t (DisksSay id new.read new.epoch new.status new.damage)
  adds_says told =
      let before = told_later s m t (DisksSay id old.read old.epoch old.status old.damage) next told in
      ⊎_elim
      (λ failed. subst (λ (y : Tally). Told s t (DisksSay id y.read y.epoch y.status y.damage)) (sym failed.1) before)
      (λ found.
      let says = told_before s m t (SlotsSay id member.slot found.0 found.1 found.2) first next (same_says id member.slot found.0 found.1 found.2) found.3 in
      subst (λ (y : Tally). Told s t (DisksSay id y.read y.epoch y.status y.damage)) (sym found.4)
      (λ now holds image was. let so = says now holds image was in says_more id image old.read member (before now holds image was) so.epoch_is so.status_is so.damage_is))
      adds

-- ---- members by their place

pub among_get : (ms : List Member) (i : ℕ) (d : Member) → i < length ms → IsAmong ms (get_or ms i d)
among_get [] i d lt = absurd (omega arith)
among_get (m ∷ ms) zero d lt = inl refl
among_get (m ∷ ms) (suc i) d lt = inr (among_get ms i d (omega arith))

-- one of the members has its slots while the same disks stay attached
pub member_slots : {s t : BayState} (ms : List Member) (i : ℕ) (d : Member) → HaveSlots s ms → KeepsAttached s t → i < length ms → HasSlots t (get_or ms i d).slot (get_or ms i d).sector
member_slots ms i d have keeps lt = still_slots (have (get_or ms i d) (among_get ms i d lt)) keeps
