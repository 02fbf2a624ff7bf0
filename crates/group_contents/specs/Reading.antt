-- What calls that read the bytes of a file show, and keep.
use Rattle.std.specs.Prelude.{◌≡◌, ℕ, ◌+◌, ◌≤◌, length, take, drop, Some}
use Rattle.std.specs.Option.{ForSome}
use Rattle.std.specs.FinMap as maps
use Rattle.bay.specs.State.{BayState}
use Rattle.asm_group.specs.Names.{Bytes}
use Rattle.asm_group.specs.Group.{File, Group}
use Rattle.asm_images.specs.Kept.{Kept}
use Rattle.asm_world.specs.Files.{Agrees}
use Rattle.file_extents.specs.group_engine.Mounts.{MountedGroup, Mounts}
use Rattle.group_contents.specs.declared.opening.OpenFile.{OpenFile}

-- where the group has the file that is open, and so many bytes of it from byte `at` on, its cells there agree with these
abbrev pub ShowsFile : Group → OpenFile → ℕ → Bytes → Type 0
ShowsFile g opened at bytes =
    (file : File) → maps.get g.files opened.file ≡ Some file → file.stripe ≡ opened.stripe → at + length bytes ≤ length file.cells
    → Agrees (take (length bytes) (drop at file.cells)) bytes

-- as the group was mounted over the disks, it is
abbrev pub KeepsMounted : MountedGroup → BayState → BayState → Type 0
KeepsMounted m s t = (n : ℕ) (g : Group) (kept : Kept) → Mounts n m s g kept → Mounts n m t g kept

-- P, of each group as which it was mounted, where the bay tells what the disks hold
abbrev pub WhereMounted : MountedGroup → BayState → BayState → (Group → Type 0) → Type 0
WhereMounted m s t P = (n : ℕ) (g : Group) (kept : Kept) → Mounts n m s g kept → ForSome t.holds (λ image. P g)
