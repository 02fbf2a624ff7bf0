-- Directories of a group by its tables, as the world has them.
use Rattle.std.specs.Prelude.{◌≡◌, ℕ, List, ◌∷◌, [], length, None, IsTrue, Ok, Err}
use Rattle.refusal_lines.specs.Refusals.{meaning_of}
use Rattle.refusal_lines.specs.declared.refusal.Refusal.{Refusal}
use Rattle.asm_group.specs.Group.{Cell, Group}
use Rattle.asm_group.specs.Names.{Bytes, Path}
use Rattle.asm_group.specs.Shape.{Shape}
use Rattle.asm_world.specs.Causes.{IsCaused, decided, dir_causes}
use Rattle.asm_world.specs.Edits as world
use Rattle.alias_tree.specs.Spelling.{names_to}
use Rattle.catalog_tables.specs.Tables.{AreTables, Tables}
use Rattle.group_of.specs.Groups.{group_of}
use Rattle.group_reports.specs.Places.{directory_at}

-- the names on the way to a node, as the nodes of the tables spell them
abbrev pub spelt_by : Tables → ℕ → Path
spelt_by t n = names_to t.nodes (length t.nodes) n

-- The path leads to a directory of the group, which is spelt so there.
pub record IsDirectory (g : Group) (path : Path) (place : List Bytes) : Type 0 where
  pub there : IsTrue (world.group_has_dir g path)
  pub uncaused : decided (dir_causes g path) ≡ None
  pub spelt : world.spelt g path ≡ place

-- A directory by the tables is one of the world's group, spelt as the nodes are.
abbrev pub DirectoriesAreWorlds : Type 0
DirectoriesAreWorlds =
    (name : Bytes) (s : Shape) (t : Tables) (cells : ℕ → List Cell) (path : Path) (n : ℕ) → AreTables t → directory_at t path ≡ Ok n
    → IsDirectory (group_of name s t cells) path (name ∷ spelt_by t n)

-- What is none by the tables is refused by the world.
abbrev pub NoDirectoriesAreWorlds : Type 0
NoDirectoriesAreWorlds =
    (name : Bytes) (s : Shape) (t : Tables) (cells : ℕ → List Cell) (path : Path) (refusal : Refusal) → AreTables t → directory_at t path ≡ Err refusal
    → IsCaused (dir_causes (group_of name s t cells) path) (meaning_of (λ _. []) refusal)
