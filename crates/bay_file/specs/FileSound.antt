-- What a bay of files tells is sound.
use Rattle.std.specs.Prelude.{◌≡◌, ℕ, ◌<◌, ◌^◌, Option, None, Some, option_map, option_and_then}
use Rattle.std.specs.Ordering.{nat_cmp}
use Rattle.std.specs.BTreeMap.{get}
use Rattle.std.proofs.Common.{arith}
use Rattle.bay.specs.State.{IsSound}
use Rattle.bay_file.specs.Slots.{size_in}
use Rattle.bay_file.specs.FileBays.{file_bay_state}
use Rattle.bay_file.specs.declared.file_bay.FileBay.{FileBay}
use Rattle.bay_file.specs.declared.image.Image.{Image}
use Rattle.bay_file.specs.declared.slot.Slot.{Slot}

fits_image : (image : Option Image) (size : ℕ) → option_map (λ (i : Image). i.size) image ≡ Some size → size < 2 ^ 64
fits_image None size is = cc
fits_image (Some image) size is = let same : image.size ≡ size = cc in omega (arith, same, image.fits)

fits_slot : (slot : Option Slot) (size : ℕ) → option_and_then size_in slot ≡ Some size → size < 2 ^ 64
fits_slot None size is = cc
fits_slot (Some slot) size is = fits_image slot.image size is

pub file_bay_is_sound : (bay : FileBay) → IsSound (file_bay_state bay)
file_bay_is_sound bay = record {
  held = λ image is. cc;
  told = λ image left. absurd left;
  fits = λ slot size is. fits_slot (get nat_cmp bay.slots slot) size is;
  sized = λ slot size image is left. absurd left;
  past_end = λ slot k image left past. absurd left;
}
