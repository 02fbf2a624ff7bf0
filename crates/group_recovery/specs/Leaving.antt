-- What a mount leaves as it is: the headers of all disks, and the bytes behind the directory regions.
use Rattle.std.specs.Prelude.{◌≡◌, ℕ, ◌*◌, ◌<◌, ◌≤◌, Some}
use Rattle.bay.specs.Image.{Image}
use Rattle.asm_formats.specs.Bytes.{block_size}
use Rattle.asm_formats.specs.Header.{Header}
use Rattle.asm_formats.specs.Regions.{region_end}
use Rattle.asm_images.specs.Bridge.{disks_in}
use Rattle.asm_images.specs.Kept.{header_in}
use Rattle.group_recovery.specs.Narrowing.{KeepsUserBytes}

-- No disk changes its length, its header's blocks, or a byte behind the directory region that its header gives it.
pub record LeavesUsers (old new : Image) : Type 0 where
  pub size : (s : ℕ) → new.size s ≡ old.size s
  pub front : (s k : ℕ) → k < 2 * block_size → new.byte s k ≡ old.byte s k
  pub behind : (s k : ℕ) (h : Header) → header_in old s ≡ Some h → region_end h.shape.dir_blocks * block_size ≤ k → new.byte s k ≡ old.byte s k

-- So under each id the members and their user bytes are kept.
abbrev pub LeftUsersAreKept : Type 0
LeftUsersAreKept = (slots id : ℕ) (old new : Image) → LeavesUsers old new → KeepsUserBytes id (disks_in slots old) (disks_in slots new)
