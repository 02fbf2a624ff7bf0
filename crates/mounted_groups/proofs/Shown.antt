-- From what the gated slots of a disk show to its blocks.
use Rattle.std.proofs.Common.{◌≡◌, ℕ, ◌+◌, ◌*◌, ◌<◌, ◌≤◌, true, false, List, slice_index, ap, ◌∙◌, Option, Some, None, arith, ◌==◌}
use Rattle.std.proofs.lemmas.Bool.{cond_both}
use Rattle.std.proofs.lemmas.Option.{same_Some, none-some}
use Rattle.bay.specs.Image.{Image, window}
use Rattle.body_slot.specs.Slot.{shown_body, is_open_in, body_in}
use Rattle.body_slot.proofs.Steps.{shown-shut}
use Rattle.disk_forming.specs.Places.{gated_slot_at}
use Rattle.asm_formats.specs.Bytes.{is_open, block}
use Rattle.asm_images.specs.Bridge.{disk_bytes}
use Rattle.asm_images.proofs.Bridges.{bytes_are_listed}

module _ (slot : ℕ) (image : Image) where
  abbrev bytes : List ℕ
  bytes = disk_bytes image slot

  byte_is : (k : ℕ) → k < image.size slot → slice_index bytes k ≡ image.byte slot k
  byte_is k lt = (bytes_are_listed image slot).1 k lt

  pub same_gate : (k : ℕ) → (k + 1) * 4096 ≤ image.size slot → is_open bytes k ≡ is_open_in (gated_slot_at k 1 512) slot image
  same_gate k le = ap (λ (b : ℕ). b == 165) (byte_is (k * 4096) (omega (arith, le)))

  pub same_block : (k : ℕ) → (k + 1) * 4096 ≤ image.size slot → block bytes k ≡ window (image.byte slot) (k * 4096) 4096
  same_block k le = (bytes_are_listed image slot).2 (k * 4096) 4096 (omega (arith, le))

  pub is_shut : (k : ℕ) → (k + 1) * 4096 ≤ image.size slot → shown_body (gated_slot_at k 1 512) slot image ≡ None → is_open bytes k ≡ false
  is_shut k le none = same_gate k le ∙ shown-shut (gated_slot_at k 1 512) slot image none

  pub is_shown : (k : ℕ) (body : List ℕ) → (k + 2) * 4096 ≤ image.size slot → shown_body (gated_slot_at k 1 512) slot image ≡ Some body → (is_open bytes k ≡ true) × (block bytes (k + 1) ≡ body)
  is_shown k body le is = cond_both (is_open_in (gated_slot_at k 1 512) slot image) (Some (body_in (gated_slot_at k 1 512) slot image)) None
      (λ (o : Option (List ℕ)). o ≡ Some body → (is_open bytes k ≡ true) × (block bytes (k + 1) ≡ body))
      (λ yes found. (same_gate k (omega (arith, le)) ∙ yes, same_block (k + 1) (omega (arith, le)) ∙ same_Some (body_in (gated_slot_at k 1 512) slot image) body found))
      (λ no found. absurd (none-some body found)) is
