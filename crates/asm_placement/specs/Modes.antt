-- What a disk's mode and kind allow.
use Rattle.std.specs.Prelude.{Bool, true, false, ◌&&◌, ◌||◌, not, Option, Some, None}
use Rattle.asm_formats.specs.asm_group.declared.Mode.{Mode}
use Rattle.asm_formats.specs.asm_group.declared.Mode.TheVariants.{Online, Offline, Syncing, Dropping, Forced}
pub use Rattle.asm_formats.specs.asm_group.Modes.{is_online, serves}
use Rattle.asm_formats.specs.Status.{Entry}

abbrev pub is_dropping : Mode → Bool
is_dropping Dropping = true
is_dropping _ = false

abbrev pub is_forced : Mode → Bool
is_forced Forced = true
is_forced _ = false

-- disks in these modes leave the group at the end of a rebalance
abbrev pub leaves : Mode → Bool
leaves mode = is_dropping mode || is_forced mode

-- disks in these modes stay in it
abbrev pub stays : Mode → Bool
stays Online = true
stays Offline = true
stays Syncing = true
stays _ = false

-- disks that may take new copies: Online and regular
abbrev pub is_target : Entry → Bool
is_target e = is_online e.mode && not e.quorum

-- the disk has an entry whose mode passes
abbrev pub mode_is : (Mode → Bool) → Option Entry → Bool
mode_is test None = false
mode_is test (Some e) = test e.mode
