-- What is told of the disks over calls that leave them.
use Rattle.std.proofs.Common.{◌*◌, ◌≤◌}
use Rattle.bay.specs.Image.{Image}
use Rattle.bay.specs.State.{BayState, IsSound}
use Rattle.asm_formats.specs.Bytes.{block_size}
use Rattle.asm_formats.specs.Regions.{region_end}
use Rattle.change_directory.specs.declared.copy.DirCopy.{DirCopy}
use Rattle.change_directory.specs.Places.{IsCopy}
use Rattle.bay.specs.Told.{Told}
use Rattle.change_directory.proofs.Runs.{has_size}

-- the image has the region of the copy
abbrev pub IsSized : DirCopy → Image → Type 0
IsSized copy image = region_end copy.dir_blocks * block_size ≤ image.size copy.slot

-- what follows from what is told, of an image that has the copy's region
pub told_sized : (s t : BayState) (P Q : Image → Type 0) (copy : DirCopy) → IsSound s → IsCopy s copy → ((x : Image) → IsSized copy x → P x → Q x) → Told s t P → Told s t Q
told_sized s t P Q copy sound is f p = λ now holds image was. f image (has_size sound is image (sound.held image was)) (p now holds image was)

pub told_both : (s t : BayState) (P Q R : Image → Type 0) → ((x : Image) → P x → Q x → R x) → Told s t P → Told s t Q → Told s t R
told_both s t P Q R joins p q = λ now holds image was. joins image (p now holds image was) (q now holds image was)
