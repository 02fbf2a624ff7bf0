-- What is asked of a record that may come next, disk by disk and copy by copy, as it is tried.
use Rattle.std.specs.Prelude.{◌≡◌, ℕ, false, List, get_or, Option, Some, None}
use Rattle.std.specs.Option.{option_map}
use Rattle.asm_formats.specs.Following.{Follows}
use Rattle.asm_formats.specs.Sets.{elements}
use Rattle.asm_formats.specs.Status.{Entry, Status, entry_of}
use Rattle.asm_formats.specs.Among.{IsAmong}
use Rattle.directory_store.specs.change_directory.declared.copy.DirCopy.{DirCopy}
use Rattle.status_register.specs.Reaching.{Reaches}
use Rattle.status_register.specs.declared.member.Member.{Member}
use Rattle.group_engine.specs.Mounts.{IsCopyOf, MountedGroup}

-- the birth of a disk by its entry
abbrev pub birth_in : List Entry → ℕ → Option ℕ
birth_in entries d = option_map (λ (e : Entry). e.birth) (entry_of entries d)

-- where the disk has an entry, it has this birth
abbrev pub HasEntryBirth : List Entry → ℕ → ℕ → Type 0
HasEntryBirth entries d birth = (e : Entry) → entry_of entries d ≡ Some e → birth ≡ e.birth

-- the same of the attached disk of a number
abbrev pub HasBirthAt : List Entry → List (Option Member) → ℕ → Type 0
HasBirthAt entries members d = (x : Member) → get_or members d None ≡ Some x → HasEntryBirth entries d x.birth

-- the record is one of the group, isn't marked gone, may be written after the one that holds, and is reached
pub record IsRecordOf (m : MountedGroup) (next : Status) : Type 0 where
  pub group : next.id ≡ m.register.value.id
  pub alive : next.gone ≡ false
  pub follows : Follows m.register.value next
  pub reached : Reaches m.register.members next

-- a disk has a copy
abbrev pub HasDirectoryCopy : List DirCopy → ℕ → Type 0
HasDirectoryCopy copies d = (c : DirCopy) × IsAmong copies c × (c.number ≡ d)

-- where the record names the copy, it is that of an attached disk with the record's entry
abbrev pub IsRightCopy : MountedGroup → Status → DirCopy → Type 0
IsRightCopy m next c = IsAmong (elements next.directories) c.number → IsCopyOf next m.register.members m.catalog.shape c
