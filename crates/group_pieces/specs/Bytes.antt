-- The bytes of a group's disks that calls on its files may change.
use Rattle.std.specs.Prelude.{ℕ, ◌*◌, ◌≤◌}
use Rattle.bay.specs.Image.{ChangesOnly}
use Rattle.bay.specs.State.{BayState, KeepsAttached}
use Rattle.bay.specs.Moments.{Runs}
use Rattle.asm_formats.specs.Bytes.{block_size}
use Rattle.asm_formats.specs.Regions.{region_end}
use Rattle.record_laws.specs.group_engine.Mounts.{IsOwn, IsReady, MountedGroup}

-- a byte of an attached disk behind its directory region
abbrev pub UserBytes : MountedGroup → ℕ → ℕ → Type 0
UserBytes m slot k = IsOwn m slot × (region_end m.catalog.shape.dir_blocks * block_size ≤ k)

-- Nothing changes but bytes of a region, behind the directory regions of attached disks, and the group takes the next call.
pub record WritesBytes (m : MountedGroup) (region : ℕ → ℕ → Type 0) (s t : BayState) : Type 0 where
  pub attached : KeepsAttached s t
  pub runs : Runs (IsOwn m) (ChangesOnly region) s t
  pub user : (slot k : ℕ) → region slot k → UserBytes m slot k
  pub ready : IsReady m t
