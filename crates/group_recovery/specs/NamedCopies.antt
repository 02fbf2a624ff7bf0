-- The directory copies that a mount reads.
use Rattle.std.specs.Prelude.{ℕ, ◌==◌, ◌&&◌, Bool, List, [], ◌∷◌, if◌then◌else◌}
use Rattle.asm_formats.specs.Regions.{has_region}
use Rattle.asm_formats.specs.Sets.{has_bit}
use Rattle.asm_formats.specs.Status.{Status}
use Rattle.directory_store.specs.change_directory.declared.copy.DirCopy.{DirCopy}
use Rattle.status_register.specs.Holders.{is_of}
use Rattle.status_register.specs.declared.member.Member.{Member}
use Rattle.group_recovery.specs.Missing.{has_units}
use Rattle.group_recovery.specs.Verdicts.{has_slot, member_of}
use Rattle.group_recovery.specs.declared.finding.Headed.{Headed}

-- the directory copy of a disk
abbrev pub directory_copy_of : Headed → DirCopy
directory_copy_of h = record { number = h.header.number; slot = h.slot; dir_blocks = h.header.shape.dir_blocks; sector = h.header.shape.sector }

-- the disk is a member of the id that was read, the record names its copy, it is the disk of its number's entry with at least its units, and its image reaches to the end of the directory region
abbrev pub is_named_copy : ℕ → List Member → Status → Headed → Bool
is_named_copy id read r h =
    (h.header.id == id) && (has_slot read h.slot && (has_bit r.directories h.header.number
    && (is_of r.entries (member_of h) && (has_units r.entries h && has_region h.header.shape.dir_blocks h.size))))

-- the copies of these members of the id that were read and that the record names, in the order of the disks
abbrev pub named_copies : ℕ → List Member → Status → List Headed → List DirCopy
named_copies id read r [] = []
named_copies id read r (h ∷ hs) = if is_named_copy id read r h then directory_copy_of h ∷ named_copies id read r hs else named_copies id read r hs
