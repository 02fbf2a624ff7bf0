-- What is asked of a command that writes bytes of a file.
use Rattle.std.specs.Prelude.{◌≡◌, List}
use Rattle.asm_group.specs.Names.{Bytes}
use Rattle.asm_world.specs.Command.{Asked, DbFill, DbWrite}
use Rattle.asm_world.specs.Language.{command_of}
use Rattle.session.specs.group_contents.declared.work.FileWork.{FileWork}
use Rattle.session.specs.group_contents.declared.work.FileWork.TheVariants as work
use Rattle.session.specs.Leading.{IsLedTo}

-- The text asks for this write in the group of the name, at a path to which the path of the verb leads from a place.
abbrev pub AsksWrite : Bytes → List Bytes → Bytes → FileWork → Type 0
AsksWrite text place name (work.Write path at bytes) = (name ≡ path.group) × ((verb : Bytes) × (command_of text ≡ Asked (DbWrite verb at bytes)) × IsLedTo place verb path)
AsksWrite text place name (work.Fill path at len byte) = (name ≡ path.group) × ((verb : Bytes) × (command_of text ≡ Asked (DbFill verb at len byte)) × IsLedTo place verb path)
AsksWrite text place name other = ⊥
