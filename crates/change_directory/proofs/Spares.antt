-- The spare log slot doesn't hold the content.
use Rattle.std.proofs.Common.{◌≡◌, ◌⊎◌, inl, inr, ⊎_elim, ℕ, ◌+◌, ◌*◌, ◌<◌, ◌≤◌, Bool, true, false, cond, List, refl, sym, ap, subst, ◌∙◌, Option, Some, None, arith}
use Rattle.std.specs.Prelude.{◌==◌}
use Rattle.std.proofs.lemmas.Bool.{cases_lt, lt-ltb, le-ltb}
use Rattle.bay.specs.Image.{Image, Same}
use Rattle.bay.proofs.Images.{window-same}
use Rattle.asm_formats.specs.Bytes.{block_size, is_open}
use Rattle.asm_formats.specs.Regions.{region_start, region_end, first_log, second_log}
use Rattle.asm_formats.specs.Logs.{log_at, log_head_at}
use Rattle.asm_formats.specs.Slots.{ArePair}
use Rattle.asm_formats.specs.LogSlots.{IsFreeLog, MayCloseLog}
use Rattle.asm_images.proofs.Bridges.{bytes_are_listed}
use Rattle.change_directory.specs.declared.copy.DirCopy.{DirCopy}
use Rattle.change_directory.specs.declared.copy.LogSlot.{LogSlot}
use Rattle.change_directory.specs.declared.copy.LogSlot.TheVariants.{First, Second}
use Rattle.change_directory.specs.Places.{gate_of, other_of}
use Rattle.change_directory.specs.Logs.{SameLogSlots, is_open_at, commit_number_at, open_number, spare_of, spare_in}
use Rattle.change_directory.specs.Changes.{copy_disk_bytes, IsAtHome, DecodesIn, IsAbove}
use Rattle.change_directory.specs.StoreLaws.{SameRegion}

-- ---- the choice

abbrev IsSpare : LogSlot → Bool → Bool → ℕ → ℕ → Type 0
IsSpare First a b n m = (a ≡ false) ⊎ ((b ≡ true) × (n < m))
IsSpare Second a b n m = (b ≡ false) ⊎ ((a ≡ true) × (m ≤ n))

chosen : (a b : Bool) (n m : ℕ) → IsSpare (spare_of (cond a (Some n) None) (cond b (Some m) None)) a b n m
chosen false b n m = inl refl
chosen true false n m = inl refl
chosen true true n m = ⊎_elim
    (λ (below : n < m). subst (λ (x : Bool). IsSpare (cond x First Second) true true n m) (sym (lt-ltb n m below)) (inr (refl, below)))
    (λ (above : m ≤ n). subst (λ (x : Bool). IsSpare (cond x First Second) true true n m) (sym (le-ltb n m above)) (inr (refl, above)))
    (cases_lt n m)

-- the same log slots have the same spare one
pub spare_logs : (copy : DirCopy) (x y : Image) → SameLogSlots copy x y → spare_in copy y ≡ spare_in copy x
spare_logs copy x y same = λ i. spare_of (cond (same.gates First i) (Some (same.numbers First i)) None) (cond (same.gates Second i) (Some (same.numbers Second i)) None)

-- the same bytes have the same log slots
pub same_logs : (copy : DirCopy) (x y : Image) → ((k : ℕ) → y.byte copy.slot k ≡ x.byte copy.slot k) → SameLogSlots copy x y
same_logs copy x y same = record {
  gates = λ log. ap (λ (b : ℕ). b == 165) (same (gate_of copy log * block_size));
  numbers = λ log.
      ap (λ (l : List ℕ). (log_head_at l).commit) (window-same (x.byte copy.slot) (y.byte copy.slot) ((gate_of copy log + 1) * block_size) block_size (λ k low high. same k));
}

pub spare_same : (copy : DirCopy) (x held : Image) → ((k : ℕ) → x.byte copy.slot k ≡ held.byte copy.slot k) → spare_in copy x ≡ spare_in copy held
spare_same copy x held same = spare_logs copy held x (same_logs copy held x same)

-- ---- as it is read

pub same_number : (copy : DirCopy) (log : LogSlot) (old image : Image) → Same old image → open_number copy log image ≡ open_number copy log old
same_number copy log old image same =
    let opens : is_open_at copy log image ≡ is_open_at copy log old = ap (λ (b : ℕ). b == 165) (same.byte copy.slot (gate_of copy log * block_size)) in
    let numbers : commit_number_at copy log image ≡ commit_number_at copy log old =
    ap (λ (l : List ℕ). (log_head_at l).commit) (window-same (old.byte copy.slot) (image.byte copy.slot) ((gate_of copy log + 1) * block_size) block_size (λ k low high. same.byte copy.slot k)) in
    λ i. cond (opens i) (Some (numbers i)) None

-- the slot that is spare by the two numbers, of which the first was read before
pub spare_read : (copy : DirCopy) (mid image : Image) (first second : Option ℕ) → Same mid image → first ≡ open_number copy First mid → second ≡ open_number copy Second image
    → spare_of first second ≡ spare_in copy image
spare_read copy mid image first second same one two =
    let a : first ≡ open_number copy First image = one ∙ sym (same_number copy First mid image same) in
    λ i. spare_of (a i) (two i)

-- ---- on the list of a disk's bytes

pub pair_of : (copy : DirCopy) (log : LogSlot) → ArePair (first_log copy.dir_blocks) (second_log copy.dir_blocks) (gate_of copy log) (gate_of copy (other_of log))
pair_of copy First = inl (refl, refl)
pair_of copy Second = inr (refl, refl)

pub slot_inside : (copy : DirCopy) (log : LogSlot) → 128 ≤ copy.dir_blocks → gate_of copy log + 66 ≤ region_end copy.dir_blocks
slot_inside copy First least = omega arith
slot_inside copy Second least = omega arith

pub low_gate : (copy : DirCopy) (log : LogSlot) → region_start + copy.dir_blocks ≤ gate_of copy log
low_gate copy First = omega arith
low_gate copy Second = omega arith

-- the same directory region has the same log slots
pub region_logs : (copy : DirCopy) (x y : Image) → 128 ≤ copy.dir_blocks → SameRegion copy x y → SameLogSlots copy x y
region_logs copy x y least same = record {
  gates = λ log.
      ap (λ (b : ℕ). b == 165) (same.bytes (gate_of copy log * block_size) (omega (arith, low_gate copy log)) (omega (arith, slot_inside copy log least)));
  numbers = λ log.
      ap (λ (l : List ℕ). (log_head_at l).commit)
      (window-same (x.byte copy.slot) (y.byte copy.slot) ((gate_of copy log + 1) * block_size) block_size
      (λ k from to. same.bytes k (omega (arith, low_gate copy log, from)) (omega (arith, slot_inside copy log least, to))));
}

module _ (copy : DirCopy) (least : 128 ≤ copy.dir_blocks) (x : Image) (sized : region_end copy.dir_blocks * block_size ≤ x.size copy.slot) where
  pub gate_listed : (log : LogSlot) → is_open (copy_disk_bytes copy x) (gate_of copy log) ≡ is_open_at copy log x
  gate_listed log =
      let inside = slot_inside copy log least in
      ap (λ (b : ℕ). b == 165) ((bytes_are_listed x copy.slot).1 (gate_of copy log * block_size) (omega (arith, inside, sized)))

  pub number_listed : (log : LogSlot) → (log_at copy.dir_blocks (copy_disk_bytes copy x) (gate_of copy log)).commit ≡ commit_number_at copy log x
  unfolding log_at
  number_listed log =
      let inside = slot_inside copy log least in
      ap (λ (l : List ℕ). (log_head_at l).commit) ((bytes_are_listed x copy.slot).2 ((gate_of copy log + 1) * block_size) block_size (omega (arith, inside, sized)))

  pub free_slot : IsFreeLog copy.dir_blocks (copy_disk_bytes copy x) (gate_of copy (spare_in copy x)) (gate_of copy (other_of (spare_in copy x)))
  free_slot = go (spare_in copy x) (chosen (is_open_at copy First x) (is_open_at copy Second x) (commit_number_at copy First x) (commit_number_at copy Second x))
    where
      go : (log : LogSlot) → IsSpare log (is_open_at copy First x) (is_open_at copy Second x) (commit_number_at copy First x) (commit_number_at copy Second x)
          → IsFreeLog copy.dir_blocks (copy_disk_bytes copy x) (gate_of copy log) (gate_of copy (other_of log))
      go First (inl shut) = inl (gate_listed First ∙ shut)
      go First (inr p) = inr (gate_listed Second ∙ p.0, inl (omega (arith, number_listed First, number_listed Second, p.1)))
      go Second (inl shut) = inl (gate_listed Second ∙ shut)
      go Second (inr p) = inr (
        gate_listed First ∙ p.0,
        ⊎_elim
            (λ (below : commit_number_at copy Second x < commit_number_at copy First x). inl (omega (arith, number_listed First, number_listed Second)))
            (λ (above : commit_number_at copy First x ≤ commit_number_at copy Second x). inr (omega (arith, number_listed First, number_listed Second, p.1), omega arith))
            (cases_lt (commit_number_at copy Second x) (commit_number_at copy First x)),
      )

  pub may_close : IsAtHome copy x → DecodesIn copy x → MayCloseLog copy.dir_blocks (copy_disk_bytes copy x) (gate_of copy (spare_in copy x)) (gate_of copy (other_of (spare_in copy x)))
  may_close home decodes = record { pair = pair_of copy (spare_in copy x); free = free_slot; decode = decodes; checkpointed = λ opened. home }

  pub is_above : (number : ℕ) → IsAbove copy number x → (log : LogSlot) → is_open (copy_disk_bytes copy x) (gate_of copy log) ≡ true → (log_at copy.dir_blocks (copy_disk_bytes copy x) (gate_of copy log)).commit < number
  is_above number above log opened =
      let lower = above log (sym (gate_listed log) ∙ opened) in
      subst (λ (n : ℕ). n < number) (sym (number_listed log)) lower
