-- What the modes of disks are good for.
use Rattle.std.specs.Prelude.{Bool, true, false}
use Rattle.asm_group.specs.declared.Mode.{Mode}
use Rattle.asm_group.specs.declared.Mode.TheVariants.{Online, Offline, Syncing, Dropping}

abbrev pub is_online : Mode → Bool
is_online Online = true
is_online _ = false

abbrev pub is_offline : Mode → Bool
is_offline Offline = true
is_offline _ = false

-- disks in these modes serve reads and writes
abbrev pub serves : Mode → Bool
serves Online = true
serves Syncing = true
serves Dropping = true
serves _ = false
