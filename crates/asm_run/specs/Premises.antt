-- What is asked of a run besides the disks before it.
use Rattle.std.specs.Prelude.{ℕ, ◌+◌, ◌^◌, ◌<◌, List, All}
use Rattle.bay.specs.Image.{Image}
use Rattle.bay.specs.State.{BayState}
use Rattle.asm_images.specs.Bridge.{disks_in}
use Rattle.asm_images.specs.Counters.{CountersAreBelow}

-- Counters don't run out: those in the images at the start, of n slots, are below 2^62, the run makes fewer than 2^62 calls on the
-- disks, and the clock gives times below 2^46. No clause asks for this yet; claims on histories, births, commit numbers and
-- incarnations of mounted groups will.
pub record CountersLast (n : ℕ) (old new : BayState) (times : List ℕ) : Type 0 where
  pub small : (image : Image) → old.leaves old.calls image → CountersAreBelow (2 ^ 62) (disks_in n image)
  pub few : new.calls < old.calls + 2 ^ 62
  pub early : All (λ time. time < 2 ^ 46) times
