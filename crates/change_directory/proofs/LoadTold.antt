-- What is told of a log slot while it is read.
use Rattle.std.proofs.Common.{◌≡◌, ℕ, ◌+◌, ◌*◌, Bool, true, false, cond, List, length, Option, Some, None, refl, sym, ap, ◌∙◌}
use Rattle.std.specs.Prelude.{zip, ◌==◌}
use Rattle.std.specs.Option.{ForSome, option_map}
use Rattle.bay.specs.Image.{Image, Same, window}
use Rattle.bay.specs.State.{BayState, IsSound}
use Rattle.bay.specs.Moments.{Runs}
use Rattle.bay.proofs.Images.{window-same}
use Rattle.body_slot.specs.declared.place.Place.{Place}
use Rattle.body_slot.specs.Slot.{is_open_in}
use Rattle.asm_group.specs.Names.{Bytes}
use Rattle.asm_formats.specs.Logs.{PageImage, decoded_log_head, images_at, log_head_at}
use Rattle.asm_formats.specs.Damage.{head_damage}
use Rattle.change_directory.specs.declared.copy.DirCopy.{DirCopy}
use Rattle.change_directory.specs.declared.copy.LogSlot.{LogSlot}
use Rattle.change_directory.specs.declared.open_log.OpenLog.{OpenLog}
use Rattle.change_directory.specs.Places.{IsCopy, gate_of, log_place}
use Rattle.change_directory.specs.Logs.{is_open_at, commit_number_at, open_number}
use Rattle.bay.specs.Told.{Told}
use Rattle.change_directory.specs.Slots.{IsLogRead, IsRestRead, blocks_of, head_in, images_in}
use Rattle.change_directory.proofs.Runs.{same_disk}
use Rattle.change_directory.proofs.Spares.{same_number}
use Rattle.change_directory.proofs.LoadSteps.{read_blocks}
use Rattle.change_directory.proofs.SlotLaws.{log_is_read, log_is_shut}
use Rattle.bay.proofs.Telling.{told_before, told_later}
use Rattle.change_directory.proofs.Telling.{told_both, told_sized}

module _ (copy : DirCopy) (log : LogSlot) (s m t : BayState) {early late : ℕ → Type 0} (run : Runs early Same s m) (next : Runs late Same m t) (place : Place) (place_is : place ≡ log_place copy log 65) where
  -- the gate, as it was found
  gate_told : (b : Bool) → ForSome s.holds (λ image. b ≡ is_open_in place copy.slot image) → (image : Image) → s.holds ≡ Some image → b ≡ is_open_at copy log image
  gate_told b found image was = found image was ∙ ap (λ (p : Place). image.byte copy.slot p.gate == 165) place_is

  pub head_told : (b : Bool) → true ≡ b → ForSome s.holds (λ image. b ≡ is_open_in place copy.slot image) → (at : ℕ) → at ≡ (gate_of copy log + 1) * 4096 → (head : Bytes) (len : ℕ) → len ≡ 4096
      → ForSome m.holds (λ image. head ≡ window (image.byte copy.slot) at len) → Told s t (λ image. Some head ≡ head_in copy log image)
  head_told b opened found at at_is head len len_is read =
      told_both s t (λ image. true ≡ is_open_at copy log image) (λ image. head ≡ window (image.byte copy.slot) at len) (λ image. Some head ≡ head_in copy log image)
      (λ image is here.
      ap Some (here ∙ (λ i. window (image.byte copy.slot) (at_is i) (len_is i)))
      ∙ ap (λ (b : Bool). cond b (Some (window (image.byte copy.slot) ((gate_of copy log + 1) * 4096) 4096)) None) is)
      (λ now holds image was. opened ∙ gate_told b found image was)
      (told_before s m t (λ image. head ≡ window (image.byte copy.slot) at len) run next
      (λ x y same is. is ∙ window-same (x.byte copy.slot) (y.byte copy.slot) at len (λ k low high. same.byte copy.slot k))
      (λ now holds image was. read image was))

pub shut_told : (copy : DirCopy) (log : LogSlot) (s t : BayState) (place : Place) → place ≡ log_place copy log 65 → (b : Bool) → false ≡ b → ForSome s.holds (λ image. b ≡ is_open_in place copy.slot image)
    → Told s t (λ image. None ≡ head_in copy log image)
shut_told copy log s t place place_is b shut found = λ now holds image was.
    ap (λ (b : Bool). cond b (Some (window (image.byte copy.slot) ((gate_of copy log + 1) * 4096) 4096)) None)
    (shut ∙ found image was ∙ ap (λ (p : Place). image.byte copy.slot p.gate == 165) place_is)

-- the images that were read
pub images_told : (copy : DirCopy) (log : LogSlot) (s t : BayState) (at : ℕ) (pages : List ℕ) (bytes : Bytes) (images : List PageImage) → at ≡ (gate_of copy log + 2) * 4096
    → length bytes ≡ length pages * 4096 → (len : ℕ) → len ≡ length pages * 4096
    → images ≡ zip pages (blocks_of (length pages) bytes) → ForSome s.holds (λ image. bytes ≡ window (image.byte copy.slot) at len) → Told s t (λ image. images ≡ images_in copy log pages image)
images_told copy log s t at pages bytes images at_is long len len_is are read = λ now holds image was.
    are ∙ ap (zip pages) (read_blocks s t copy.slot (gate_of copy log + 2) at (length pages) bytes at_is long len len_is read now holds image was)

-- what stands behind a head is the same where the disk is
rest_same : (copy : DirCopy) (log : LogSlot) (head : Bytes) (read : OpenLog) (x y : Image) → Same x y → IsRestRead copy log head read y → IsRestRead copy log head read x
rest_same copy log head read x y same rest =
    let here = same_disk copy x y same in
    record {
      gate = rest.gate;
      number = rest.number;
      images = rest.images ∙ ap (λ (b : Bytes). images_at b (gate_of copy log + 2) (decoded_log_head copy.dir_blocks head)) here;
      damage = rest.damage ∙ ap (λ (b : Bytes). head_damage b (gate_of copy log) (decoded_log_head copy.dir_blocks head)) here;
    }

pub log_told : (copy : DirCopy) (log : LogSlot) (s m t : BayState) {early late : ℕ → Type 0} → Runs early Same s m → Runs late Same m t → IsSound s → IsCopy s copy → (head : Bytes) (read : OpenLog)
    → Told s m (λ image. Some head ≡ head_in copy log image) → Told m t (IsRestRead copy log head read) → Told s t (IsLogRead copy log (Some read))
log_told copy log s m t run next sound is head read shown rest =
    let both : Told s t (λ image. (Some head ≡ head_in copy log image) × IsRestRead copy log head read image) =
    told_both s t (λ image. Some head ≡ head_in copy log image) (IsRestRead copy log head read) (λ image. (Some head ≡ head_in copy log image) × IsRestRead copy log head read image) (λ image a b. (a, b))
    (told_later s m t (λ image. Some head ≡ head_in copy log image) next shown)
    (told_before s m t (IsRestRead copy log head read) run next (rest_same copy log head read) rest) in
    told_sized s t (λ image. (Some head ≡ head_in copy log image) × IsRestRead copy log head read image) (IsLogRead copy log (Some read)) copy sound is
    (λ image sized p. log_is_read copy is.least log image sized head read p.0 p.1) both

pub none_told : (copy : DirCopy) (log : LogSlot) (s t : BayState) → IsSound s → IsCopy s copy → Told s t (λ image. None ≡ head_in copy log image) → Told s t (IsLogRead copy log None)
none_told copy log s t sound is shown =
    told_sized s t (λ image. None ≡ head_in copy log image) (IsLogRead copy log None) copy sound is (λ image sized p. log_is_shut copy is.least log image sized p) shown

-- the number of an open log slot, of its head
pub number_told : (copy : DirCopy) (log : LogSlot) {slots : ℕ → Type 0} {s t : BayState} (head : Option Bytes) (number : Option ℕ) → number ≡ option_map (λ h. (log_head_at h).commit) head
    → Runs slots Same s t → Told s t (λ image. head ≡ head_in copy log image) → ForSome t.holds (λ image. number ≡ open_number copy log image)
number_told copy log {slots} {s} {t} head number is run told = λ image holds.
    let from = run.held image holds in
    is ∙ ap (option_map (λ h. (log_head_at h).commit)) (told image holds from.0 from.1) ∙ of_head from.0 (is_open_at copy log from.0) ∙ sym (same_number copy log from.0 image from.2)
  where
    of_head : (x : Image) (b : Bool) → option_map (λ h. (log_head_at h).commit) (cond b (Some (window (x.byte copy.slot) ((gate_of copy log + 1) * 4096) 4096)) None) ≡ cond b (Some (commit_number_at copy log x)) None
    of_head x true = refl
    of_head x false = refl
