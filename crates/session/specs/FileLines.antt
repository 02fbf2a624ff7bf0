-- The lines of commands on files: the system path of a new file.
use Rattle.std.specs.Prelude.{◌≡◌, ℕ, List, [], ◌∷◌, Option, Some, None}
use Rattle.asm_formats.specs.Items.{FileHead}
use Rattle.asm_group.specs.Names.{Bytes}
use Rattle.group_contents.specs.catalog.declared.new_file.NewFile.{NewFile}
use Rattle.group_contents.specs.file_directory.Files.{head_at}
use Rattle.group_contents.specs.group_engine.Mounts.{MountedGroup}
use Rattle.group_contents.specs.Creating.{NamesFile}
use Rattle.group_turns.specs.group_reports.Listing.{path_to}
use Rattle.session.specs.Naming.{group_among}
use Rattle.session.specs.Sessions.{SessionView}

abbrev pub line_of_head : MountedGroup → Option FileHead → List Bytes
line_of_head m None = []
line_of_head m (Some head) = path_to m.catalog.tables m.name head.system ∷ []

-- the line of a file's system path, as the group's names are spelt
abbrev pub system_lines : MountedGroup → ℕ → List Bytes
system_lines m file = line_of_head m (head_at m.catalog.tables.files file)

-- A commit gave a new file its name in the group of its path, and the line is its system path.
pub record IsNewLine (new : NewFile) (session : SessionView) (lines : List Bytes) : Type 0 where
  pub before : MountedGroup
  pub after : MountedGroup
  pub file : ℕ
  pub named : NamesFile before new file after
  pub group : group_among session.entries session.groups new.path.group ≡ Some after
  pub is : lines ≡ system_lines after file
