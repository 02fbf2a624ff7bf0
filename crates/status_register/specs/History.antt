-- The history that an image of the bay fits.
use Rattle.std.specs.Prelude.{ℕ, List, Option}
use Rattle.bay.specs.Image.{Image}
use Rattle.asm_formats.specs.Status.{Status}
use Rattle.asm_images.specs.Bridge.{disks_in}
use Rattle.asm_images.specs.Members.{all_members}
use Rattle.asm_images.specs.Register.{Fits}

-- The disks of the first slots fit the history: the record that was last completed, and those begun after it.
abbrev pub FitsHistory : ℕ → ℕ → Option Status → List Status → Image → Type 0
FitsHistory slots id completed begun image = Fits id (all_members id (disks_in slots image)) completed begun
