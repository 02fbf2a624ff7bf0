-- What replies and event lines say of a mounted group beyond the world: by its Status and Directories as they then are.
use Rattle.std.specs.Prelude.{ℕ, Bool, List, Option}
use Rattle.asm_group.specs.Names.{Bytes}
use Rattle.asm_world.specs.Reports.{GroupRow, DiskRow}

pub record GroupBelow : Type 0 where
  -- the regular failure groups with a disk that is Online, Offline or Syncing
  pub failgroups : ℕ
  -- the disk that expiry drops next, where there is one
  pub expiring : Option Bytes
  -- the least Syncing disk, where there is one
  pub syncing : Option Bytes
  -- a rebalance is active with a power of at least 1
  pub moving : Bool
  -- the slots of its attached disks
  pub attached : List ℕ
  pub row : GroupRow
  pub disks : List DiskRow
  -- the units of all copies of a file, by its number
  pub units : ℕ → ℕ
  -- the extents, and those that aren't Full
  pub extents : ℕ
  pub not_full : ℕ

-- What a command found of ids.
pub record Found : Type 0 where
  -- those in the headers of attached disks that were read
  pub ids : List ℕ
  -- the one that a creation gave, where it came to that
  pub made : Option ℕ

-- What a command finds below the world.
pub record Below : Type 0 where
  pub found : Found
  -- of the group that is mounted with an id
  pub group : ℕ → GroupBelow
