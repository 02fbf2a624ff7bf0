-- Laws over the copies of a store.
use Rattle.std.specs.Prelude.{◌≡◌, ℕ, false, true, List, ◌↔◌}
use Rattle.asm_formats.specs.Among.{IsAmong}
use Rattle.asm_formats.specs.Sets.{has_bit}
use Rattle.change_directory.specs.declared.copy.DirCopy.{DirCopy}
use Rattle.directory_store.specs.Copies.{AreCopiesApart, IsCopyApart}
use Rattle.directory_store.specs.Reading.{ArePartOf}
use Rattle.directory_store.specs.Stores.{has_copy_of_disk, others}

-- The copies that are left are those whose disks aren't in the set.
abbrev pub OthersAreLeft : Type 0
OthersAreLeft = (failed : ℕ) (copies : List DirCopy) (c : DirCopy) → IsAmong (others failed copies) c ↔ (IsAmong copies c × (has_bit failed c.number ≡ false))

-- Some of the copies are among them.
abbrev pub PartIsAmong : Type 0
PartIsAmong = (some copies : List DirCopy) → ArePartOf some copies → (c : DirCopy) → IsAmong some c → IsAmong copies c

-- The copy of a disk is one of them where one has its number.
abbrev pub DiskHasCopy : Type 0
DiskHasCopy = (number : ℕ) (copies : List DirCopy) → (has_copy_of_disk number copies ≡ true) ↔ ((c : DirCopy) × IsAmong copies c × (c.number ≡ number))

-- Of copies that are apart, one whose disk has none among some of them is apart from these.
abbrev pub AbsentIsApart : Type 0
AbsentIsApart =
    (some copies : List DirCopy) (c : DirCopy) → AreCopiesApart copies → ((d : DirCopy) → IsAmong some d → IsAmong copies d) → IsAmong copies c → has_copy_of_disk c.number some ≡ false
    → IsCopyApart c some
