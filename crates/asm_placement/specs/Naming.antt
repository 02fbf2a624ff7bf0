-- What single records of a directory content say of one another: nodes and files, files and the pending operation, entries and disk records.
use Rattle.std.specs.Prelude.{ℕ, Bool, true, false, ◌&&◌, ◌==◌, Option, Some, None}
use Rattle.asm_formats.specs.asm_group.declared.NodeKind.{NodeKind}
use Rattle.asm_formats.specs.asm_group.declared.NodeKind.TheVariants.{Directory, System, Alias}
use Rattle.asm_formats.specs.Items.{DiskInfo, FileHead, Node, Pending, is_directory_kind}

abbrev pub is_kind_directory : NodeKind → Bool
is_kind_directory kind = is_directory_kind kind

abbrev pub kind_eq : NodeKind → NodeKind → Bool
kind_eq Directory Directory = true
kind_eq System System = true
kind_eq Alias Alias = true
kind_eq _ _ = false

-- the file is there, and names node n as its node of this kind
abbrev pub names_back : NodeKind → ℕ → Option FileHead → Bool
names_back kind n None = false
names_back Directory n (Some head) = false
names_back System n (Some head) = head.system == n
names_back Alias n (Some head) = head.alias == n

-- the node is there, and is one of this kind that names file f
abbrev pub is_named_as : NodeKind → ℕ → Option Node → Bool
is_named_as kind f None = false
is_named_as kind f (Some node) = kind_eq node.kind kind && (node.file == f)

-- the pending operation is on file f
abbrev pub is_pending : ℕ → Option Pending → Bool
is_pending f None = false
is_pending f (Some op) = op.file == f

-- the disk record is there, and has this birth
abbrev pub is_birth : ℕ → Option DiskInfo → Bool
is_birth birth None = false
is_birth birth (Some info) = info.birth == birth
