-- From an image as functions to its disks as lists.
use Rattle.std.proofs.Common.{◌≡◌, ◌≢◌, ⊎_elim, ℕ, zero, suc, ◌+◌, ◌<◌, ◌≤◌, List, [], ◌∷◌, length, set, get_or, slice_index, take, drop, replicate, refl, sym, ap, subst, ◌∙◌, arith}
use Rattle.std.proofs.lemmas.Bool.{cases_lt, cases_eq}
use Rattle.std.proofs.lemmas.List.{same_lists, get_or_past, get_or-set_same, get_or-set_other, length-set}
use Rattle.std.proofs.lemmas.List.FromFn.{get_or-map-range_with_len, length-map-range_with_len}
use Rattle.bay.specs.Image as bay
use Rattle.bay.specs.Image.{window, Range, Same, ChangesOnly, Makes}
use Rattle.bay.proofs.Images.{length-window, get_or-window, window-same}
use Rattle.asm_formats.specs.Bytes.{block_size, open_byte, piece, block, is_open}
use Rattle.asm_formats.specs.Slots.{IsPut, Moment, as_before, closed, open_with_body}
use Rattle.std.proofs.Common.{◌⊎◌, ◌*◌, ◌==◌, Bool, true, false, cond, Some, None}
use Rattle.std.proofs.lemmas.Option.{same_Some, none-some}
use Rattle.asm_formats.specs.Places.{SameElsewhere}
use Rattle.asm_images.specs.Members.{written}
use Rattle.asm_images.specs.Bridge.{shown_block, disk_bytes, disks_in, ChangesSlot}

pub listed : (slots : ℕ) (image : bay.Image) → length (disks_in slots image) ≡ slots
unfolding disks_in
listed slots image = length-map-range_with_len (disk_bytes image) 0 slots

disk_at : (slots slot : ℕ) (image : bay.Image) (d : List ℕ) → slot < slots → get_or (disks_in slots image) slot d ≡ disk_bytes image slot
unfolding disks_in
disk_at slots slot image d lt = get_or-map-range_with_len (disk_bytes image) 0 slots slot slot d lt (omega arith)

pub disks_are_listed : (slots slot : ℕ) (image : bay.Image) → slot < slots → (length (disks_in slots image) ≡ slots) × (get_or (disks_in slots image) slot [] ≡ disk_bytes image slot)
disks_are_listed slots slot image lt = (listed slots image, disk_at slots slot image [] lt)

-- ---- the bytes of one disk

byte_at : (image : bay.Image) (slot k : ℕ) → k < image.size slot → slice_index (disk_bytes image slot) k ≡ image.byte slot k
byte_at image slot k lt = get_or-window (image.byte slot) 0 (image.size slot) k lt ∙ ap (image.byte slot) (omega arith)

piece_of : (byte : ℕ → ℕ) (from at n size : ℕ) → at + n ≤ size → take n (drop at (window byte from size)) ≡ window byte (from + at) n
unfolding window
piece_of byte from at zero size le = refl
piece_of byte from zero (suc n) zero le = absurd (omega arith)
piece_of byte from zero (suc n) (suc size) le =
    let start : from ≡ from + 0 = omega arith in
    let rest : suc from + 0 ≡ suc (from + 0) = omega arith in
    λ i. byte (start i) ∷ (piece_of byte (suc from) 0 n size (omega arith) ∙ ap (λ (k : ℕ). window byte k n) rest) i
piece_of byte from (suc at) (suc n) zero le = absurd (omega arith)
piece_of byte from (suc at) (suc n) (suc size) le =
    let start : suc from + at ≡ from + suc at = omega arith in
    piece_of byte (suc from) at (suc n) size (omega arith) ∙ ap (λ (k : ℕ). window byte k (suc n)) start

pub bytes_are_listed : (image : bay.Image) (slot : ℕ)
    → (length (disk_bytes image slot) ≡ image.size slot)
    × ((k : ℕ) → k < image.size slot → slice_index (disk_bytes image slot) k ≡ image.byte slot k)
    × ((at n : ℕ) → at + n ≤ image.size slot → piece (disk_bytes image slot) at n ≡ window (image.byte slot) at n)
unfolding piece
bytes_are_listed image slot = (
  length-window (image.byte slot) 0 (image.size slot),
  λ k lt. byte_at image slot k lt,
  λ at n le. piece_of (image.byte slot) 0 at n (image.size slot) le ∙ ap (λ (k : ℕ). window (image.byte slot) k n) (omega arith),
)

-- ---- changes

pub same_disk : (old new : bay.Image) (slot : ℕ) → new.size slot ≡ old.size slot → ((k : ℕ) → new.byte slot k ≡ old.byte slot k) → disk_bytes new slot ≡ disk_bytes old slot
same_disk old new slot size byte = ap (λ (n : ℕ). window (new.byte slot) 0 n) size ∙ window-same (old.byte slot) (new.byte slot) 0 (old.size slot) (λ k low high. byte k)

pub slot_change : (slots slot : ℕ) (old new : bay.Image) → ChangesSlot slot old new → disks_in slots new ≡ written (disks_in slots old) slot (disk_bytes new slot)
slot_change slots slot old new c = same_lists (disks_in slots new) (set (disks_in slots old) slot (disk_bytes new slot))
    (listed slots new ∙ sym (length-set (disks_in slots old) slot (disk_bytes new slot) ∙ listed slots old))
    (λ k d lt. let inside : k < slots = omega (arith, lt, listed slots new) in
    disk_at slots k new d inside ∙ sym (⊎_elim
    (λ (same : k ≡ slot). subst (λ (j : ℕ). get_or (set (disks_in slots old) slot (disk_bytes new slot)) j d ≡ disk_bytes new j) (sym same)
    (get_or-set_same (disks_in slots old) slot (disk_bytes new slot) d (omega (arith, inside, same, listed slots old))))
    (λ differ. get_or-set_other (disks_in slots old) slot k (disk_bytes new slot) d differ ∙ disk_at slots k old d inside
    ∙ sym (same_disk old new k (c.size k differ) (λ j. c.byte k j differ)))
    (cases_eq k slot)))

range_slot : (slot at n : ℕ) (old new : bay.Image) → ChangesOnly (Range slot at n) old new → ChangesSlot slot old new
range_slot slot at n old new c = record { size = λ s differ. c.size s; byte = λ s k differ. c.byte s k (λ r. differ r.0) }

kept_byte : (slot at n : ℕ) (old new : bay.Image) → ChangesOnly (Range slot at n) old new → (k : ℕ) → (at ≤ k → k < at + n → ⊥)
    → slice_index (disk_bytes new slot) k ≡ slice_index (disk_bytes old slot) k
kept_byte slot at n old new c k out = ⊎_elim
    (λ lt. byte_at new slot k (omega (arith, lt, c.size slot)) ∙ c.byte slot k (λ r. out r.1 r.2) ∙ sym (byte_at old slot k lt))
    (λ le. get_or_past (disk_bytes new slot) k 0 (omega (arith, length-window (new.byte slot) 0 (new.size slot), c.size slot, le))
    ∙ sym (get_or_past (disk_bytes old slot) k 0 (omega (arith, length-window (old.byte slot) 0 (old.size slot), le))))
    (cases_lt k (old.size slot))

pub range_change : (slots slot at n : ℕ) (old new : bay.Image) → ChangesOnly (Range slot at n) old new
    → (disks_in slots new ≡ written (disks_in slots old) slot (disk_bytes new slot)) × SameElsewhere (disk_bytes old slot) (disk_bytes new slot) at n
range_change slots slot at n old new c = (
  slot_change slots slot old new (range_slot slot at n old new c),
  record {
    size = length-window (new.byte slot) 0 (new.size slot) ∙ c.size slot ∙ sym (length-window (old.byte slot) 0 (old.size slot));
    before = λ k lt. kept_byte slot at n old new c k (λ low high. omega (arith, lt, low));
    behind = λ k le. kept_byte slot at n old new c k (λ low high. omega (arith, le, high));
  },
)

all_same_disks : (slots : ℕ) (old new : bay.Image) → ((s : ℕ) → s < slots → disk_bytes new s ≡ disk_bytes old s) → disks_in slots new ≡ disks_in slots old
all_same_disks slots old new same = same_lists (disks_in slots new) (disks_in slots old) (listed slots new ∙ sym (listed slots old))
    (λ k d lt. let inside : k < slots = omega (arith, lt, listed slots new) in disk_at slots k new d inside ∙ same k inside ∙ sym (disk_at slots k old d inside))

pub beyond_is_unseen : (slots slot : ℕ) (old new : bay.Image) → slots ≤ slot → ChangesSlot slot old new → disks_in slots new ≡ disks_in slots old
beyond_is_unseen slots slot old new le c = all_same_disks slots old new (λ s lt.
    let differ : s ≢ slot = λ e. omega (arith, e, lt, le) in same_disk old new s (c.size s differ) (λ k. c.byte s k differ))

pub same_is_same : (slots : ℕ) (old new : bay.Image) → Same old new → disks_in slots new ≡ disks_in slots old
same_is_same slots old new same = all_same_disks slots old new (λ s lt. same_disk old new s (same.size s) (same.byte s))

zero_window : (byte : ℕ → ℕ) (from n : ℕ) → ((k : ℕ) → byte k ≡ 0) → window byte from n ≡ replicate n 0
unfolding window
zero_window byte from zero none = refl
zero_window byte from (suc n) none = λ i. none from i ∷ zero_window byte (suc from) n none i

pub made_is_zeros : (slots slot n : ℕ) (old new : bay.Image) → Makes slot n old new → disks_in slots new ≡ written (disks_in slots old) slot (replicate n 0)
made_is_zeros slots slot n old new m =
    slot_change slots slot old new (record { size = λ s differ. m.other_size s differ; byte = λ s k differ. m.other_byte s k differ })
    ∙ ap (λ (bytes : List ℕ). written (disks_in slots old) slot bytes) (ap (λ (k : ℕ). window (new.byte slot) 0 k) m.size ∙ zero_window (new.byte slot) 0 n m.zeros)

-- ---- slots

gate_of : (image : bay.Image) (slot k : ℕ) → k * block_size < image.size slot → is_open (disk_bytes image slot) k ≡ (image.byte slot (k * block_size) == open_byte)
gate_of image slot k lt = ap (λ (b : ℕ). b == open_byte) (byte_at image slot (k * block_size) lt)

body_of : (image : bay.Image) (slot k : ℕ) → (k + 2) * block_size ≤ image.size slot → block (disk_bytes image slot) (k + 1) ≡ window (image.byte slot) ((k + 1) * block_size) block_size
body_of image slot k le = (bytes_are_listed image slot).2 ((k + 1) * block_size) block_size (omega (arith, le))

module _ (old new : bay.Image) (slot k : ℕ) (body : List ℕ) (old_len : (k + 2) * block_size ≤ old.size slot) (new_len : (k + 2) * block_size ≤ new.size slot) where
  old_gate : is_open (disk_bytes old slot) k ≡ (old.byte slot (k * block_size) == open_byte)
  old_gate = gate_of old slot k (omega (arith, old_len))

  new_gate : is_open (disk_bytes new slot) k ≡ (new.byte slot (k * block_size) == open_byte)
  new_gate = gate_of new slot k (omega (arith, new_len))

  -- by what the gates are
  both_shown : (a b : Bool) → (old.byte slot (k * block_size) == open_byte) ≡ a → (new.byte slot (k * block_size) == open_byte) ≡ b
      → cond b (Some (window (new.byte slot) ((k + 1) * block_size) block_size)) None ≡ cond a (Some (window (old.byte slot) ((k + 1) * block_size) block_size)) None
      → Moment (disk_bytes old slot) (disk_bytes new slot) k body
  both_shown a false is_a is_b e = closed (new_gate ∙ is_b)
  both_shown true true is_a is_b e = as_before (new_gate ∙ is_b ∙ sym is_a ∙ sym old_gate)
      (body_of new slot k new_len ∙ same_Some (window (new.byte slot) ((k + 1) * block_size) block_size) (window (old.byte slot) ((k + 1) * block_size) block_size) e ∙ sym (body_of old slot k old_len))
  both_shown false true is_a is_b e = absurd (none-some _ (sym e))

  shown_none : (b : Bool) → (new.byte slot (k * block_size) == open_byte) ≡ b → cond b (Some (window (new.byte slot) ((k + 1) * block_size) block_size)) None ≡ None
      → Moment (disk_bytes old slot) (disk_bytes new slot) k body
  shown_none false is_b e = closed (new_gate ∙ is_b)
  shown_none true is_b e = absurd (none-some _ (sym e))

  shown_body : (b : Bool) → (new.byte slot (k * block_size) == open_byte) ≡ b → cond b (Some (window (new.byte slot) ((k + 1) * block_size) block_size)) None ≡ Some body
      → Moment (disk_bytes old slot) (disk_bytes new slot) k body
  shown_body false is_b e = closed (new_gate ∙ is_b)
  shown_body true is_b e = open_with_body (new_gate ∙ is_b) (body_of new slot k new_len ∙ same_Some (window (new.byte slot) ((k + 1) * block_size) block_size) body e)

pub shown_is_put : (old new : bay.Image) (slot k : ℕ) (body : List ℕ) → (k + 2) * block_size ≤ old.size slot → ChangesOnly (Range slot (k * block_size) (2 * block_size)) old new
    → (shown_block new slot k ≡ shown_block old slot k) ⊎ ((shown_block new slot k ≡ None) ⊎ (shown_block new slot k ≡ Some body))
    → IsPut (disk_bytes old slot) (disk_bytes new slot) k body
shown_is_put old new slot k body old_len change shows =
    let new_len : (k + 2) * block_size ≤ new.size slot = omega (arith, old_len, change.size slot) in
    record {
      elsewhere = (range_change 0 slot (k * block_size) (2 * block_size) old new change).1;
      moment = ⊎_elim
          (λ same. both_shown old new slot k body old_len new_len (old.byte slot (k * block_size) == open_byte) (new.byte slot (k * block_size) == open_byte) refl refl same)
          (λ other. ⊎_elim
          (λ none. shown_none old new slot k body old_len new_len (new.byte slot (k * block_size) == open_byte) refl none)
          (λ new_body. shown_body old new slot k body old_len new_len (new.byte slot (k * block_size) == open_byte) refl new_body) other) shows;
    }
