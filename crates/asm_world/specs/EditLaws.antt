-- What edits and writes make of a group.
use Rattle.std.specs.Prelude.{◌≡◌, ◌≢◌, ℕ, ◌+◌, true, List, length, take, drop, Some, None, Ok}
use Rattle.std.specs.FinMap as maps
use Rattle.asm_group.specs.Group.{Cell, File, Group}
use Rattle.asm_group.specs.Names.{Bytes, Path, folded_path}
use Rattle.asm_world.specs.Edits.{group_entry_at, group_file_at, group_has_dir, edited_group, MakeDir, DropDir, AddAliasEntry, DropAliasEntry}
use Rattle.asm_world.specs.Files.{Agrees, known, named_file, group_after_write}

-- every other path leads to what it led to
abbrev pub OtherPathsStay : Group → Group → Path → Type 0
OtherPathsStay g h path = (other : Path) → folded_path other ≢ folded_path path → group_entry_at h other ≡ group_entry_at g other

pub record NamesAreEdited : Type 0 where
  pub make : (g h : Group) (path : Path) → edited_group g (MakeDir path) ≡ Ok h → (group_has_dir h path ≡ true) × OtherPathsStay g h path × (h.files ≡ g.files)
  pub drop_dir : (g h : Group) (path : Path) → edited_group g (DropDir path) ≡ Ok h → (group_entry_at h path ≡ None) × OtherPathsStay g h path × (h.files ≡ g.files)
  pub alias : (g h : Group) (alias path : Path) → edited_group g (AddAliasEntry alias path) ≡ Ok h → (group_file_at h alias ≡ group_file_at g path) × OtherPathsStay g h alias × (h.files ≡ g.files)
  pub drop_alias : (g h : Group) (path : Path) → edited_group g (DropAliasEntry path) ≡ Ok h → (group_entry_at h path ≡ None) × OtherPathsStay g h path × (h.files ≡ g.files)

-- A write leaves all names, other files and other bytes, and what was written is read.
pub record FilesAreWritten : Type 0 where
  pub names : (g h : Group) (path : Path) (at : ℕ) (cells : List Cell) → group_after_write g path at cells ≡ Ok h → h.tree ≡ g.tree
  pub others : (g h : Group) (path : Path) (at : ℕ) (cells : List Cell) → group_after_write g path at cells ≡ Ok h
      → (n : ℕ) → group_file_at g path ≢ Some n → maps.get h.files n ≡ maps.get g.files n
  pub read : (g h : Group) (path : Path) (at : ℕ) (cells : List Cell) (f : File) → group_after_write g path at cells ≡ Ok h → named_file h path ≡ Some f
      → take (length cells) (drop at f.cells) ≡ cells
  pub before : (g h : Group) (path : Path) (at : ℕ) (cells : List Cell) (old f : File) → group_after_write g path at cells ≡ Ok h → named_file g path ≡ Some old → named_file h path ≡ Some f
      → take at f.cells ≡ take at old.cells
  pub after : (g h : Group) (path : Path) (at : ℕ) (cells : List Cell) (old f : File) → group_after_write g path at cells ≡ Ok h → named_file g path ≡ Some old → named_file h path ≡ Some f
      → drop (at + length cells) f.cells ≡ drop (at + length cells) old.cells
  pub size : (g h : Group) (path : Path) (at : ℕ) (cells : List Cell) (old f : File) → group_after_write g path at cells ≡ Ok h → named_file g path ≡ Some old → named_file h path ≡ Some f
      → length f.cells ≡ length old.cells

-- Where bytes are known, they alone are read.
abbrev pub KnownBytesAreRead : Type 0
KnownBytesAreRead = (bytes read : Bytes) → Agrees (known bytes) read → read ≡ bytes
