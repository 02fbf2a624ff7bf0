-- What the gates and the blocks of a disk are as bytes, and what header they give it.
use Rattle.std.proofs.Common.{◌≡◌, ℕ, ◌+◌, ◌*◌, ◌<◌, ◌≤◌, Bool, true, false, cond, List, length, slice_index, Some, None, Option, sym, ap, ◌∙◌, arith, ◌==◌}
use Rattle.std.specs.Prelude.{nat_le, ◌&&◌}
use Rattle.std.proofs.lemmas.Bool.{cond-true, cond-false, cond_both, le-leb, lt-leb, and_right}
use Rattle.std.proofs.lemmas.Option.{same_Some, none-some}
use Rattle.bay.specs.Image.{Image, Same, window}
use Rattle.bay.proofs.Images.{window-same}
use Rattle.body_slot.specs.Slot.{shown_body, is_open_in, body_in}
use Rattle.body_slot.proofs.Steps.{shown-shut}
use Rattle.disk_forming.specs.Places.{gated_slot_at}
use Rattle.asm_formats.specs.Bytes.{block, is_open}
use Rattle.asm_formats.specs.Regions.{least_size, header_gate}
use Rattle.asm_formats.specs.Header.{Header, is_header, header_spelling, decoded_header}
use Rattle.asm_formats.specs.Metadata.{header_of}
use Rattle.asm_formats.proofs.HeaderReading.{header_again}
use Rattle.asm_images.specs.Bridge.{disk_bytes}
use Rattle.asm_images.specs.Kept.{header_in}
use Rattle.asm_images.proofs.Bridges.{bytes_are_listed, same_disk}

-- a shut gate shows no header
pub shut_header : (bytes : List ℕ) → is_open bytes header_gate ≡ false → header_of bytes ≡ None
shut_header bytes shut =
    cond-false (nat_le least_size (length bytes) && is_open bytes header_gate) (decoded_header (block bytes 1)) None (and_right (nat_le least_size (length bytes)) (is_open bytes header_gate) shut)

pub same_header : (slot : ℕ) (x y : Image) → Same x y → header_in y slot ≡ header_in x slot
same_header slot x y same = ap header_of (same_disk x y slot (same.size slot) (λ k. same.byte slot k))

module _ (slot : ℕ) (image : Image) where
  abbrev bytes : List ℕ
  bytes = disk_bytes image slot

  len : length bytes ≡ image.size slot
  len = (bytes_are_listed image slot).0

  byte_is : (k : ℕ) → k < image.size slot → slice_index bytes k ≡ image.byte slot k
  byte_is k lt = (bytes_are_listed image slot).1 k lt

  pub same_gate : (k sector : ℕ) → (k + 1) * 4096 ≤ image.size slot → is_open bytes k ≡ is_open_in (gated_slot_at k 1 sector) slot image
  same_gate k sector le = ap (λ (b : ℕ). b == 165) (byte_is (k * 4096) (omega (arith, le)))

  pub same_block : (k : ℕ) → (k + 1) * 4096 ≤ image.size slot → block bytes k ≡ window (image.byte slot) (k * 4096) 4096
  same_block k le = (bytes_are_listed image slot).2 (k * 4096) 4096 (omega (arith, le))

  -- a short disk has no header
  pub short_none : image.size slot < 40960 → header_in image slot ≡ None
  short_none short =
      cond-false (nat_le least_size (length bytes) && is_open bytes 0) (decoded_header (block bytes 1)) None
      (ap (λ (b : Bool). b && is_open bytes 0) (lt-leb 40960 (length bytes) (omega (arith, len, short))))

  module _ (long : 40960 ≤ image.size slot) (sector : ℕ) where
    long_test : (gate : Bool) → gate ≡ is_open_in (gated_slot_at 0 1 sector) slot image → (nat_le least_size (length bytes) && is_open bytes 0) ≡ gate
    long_test gate is =
        ap (λ (b : Bool). b && is_open bytes 0) (le-leb 40960 (length bytes) (omega (arith, len, long))) ∙ (same_gate 0 sector (omega (arith, long)) ∙ sym is)

    pub gate_shut_none : false ≡ is_open_in (gated_slot_at 0 1 sector) slot image → header_in image slot ≡ None
    gate_shut_none is = cond-false (nat_le least_size (length bytes) && is_open bytes 0) (decoded_header (block bytes 1)) None (long_test false is)

    pub open_header : true ≡ is_open_in (gated_slot_at 0 1 sector) slot image → header_in image slot ≡ decoded_header (window (image.byte slot) 4096 4096)
    open_header is =
        cond-true (nat_le least_size (length bytes) && is_open bytes 0) (decoded_header (block bytes 1)) None (long_test true is)
        ∙ ap decoded_header (same_block 1 (omega (arith, long)))

    -- a slot that shows nothing, and one that shows a header
    pub nothing_shown : shown_body (gated_slot_at 0 1 sector) slot image ≡ None → header_in image slot ≡ None
    nothing_shown none = gate_shut_none (sym (shown-shut (gated_slot_at 0 1 sector) slot image none))

    pub header_shown : (h : Header) → is_header h ≡ true → shown_body (gated_slot_at 0 1 sector) slot image ≡ Some (header_spelling h) → header_in image slot ≡ Some h
    header_shown h ok is = cond_both (is_open_in (gated_slot_at 0 1 sector) slot image) (Some (body_in (gated_slot_at 0 1 sector) slot image)) None
        (λ (o : Option (List ℕ)). o ≡ Some (header_spelling h) → header_in image slot ≡ Some h)
        (λ yes found. open_header (sym yes) ∙ ap decoded_header (same_Some (body_in (gated_slot_at 0 1 sector) slot image) (header_spelling h) found) ∙ header_again h ok)
        (λ no found. absurd (none-some (header_spelling h) found)) is
