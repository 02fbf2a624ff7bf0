-- The edits of names that clauses and verbs ask for, by their paths.
use Rattle.asm_group.specs.Names.{Path}
use Rattle.asm_group.specs.TreeEdits as e
use Rattle.name_commands.specs.declared.names.AtPath.{AtPath}
use Rattle.name_commands.specs.declared.names.AtPath.TheVariants as at
use Rattle.name_commands.specs.declared.names.BetweenPaths.{BetweenPaths}
use Rattle.name_commands.specs.declared.names.BetweenPaths.TheVariants as between

-- at one path
abbrev pub edit_at : AtPath → Path → e.TreeEdit
edit_at at.MakeDir path = e.MakeDir path
edit_at at.DropDir path = e.DropDir path
edit_at at.DropAlias path = e.DropAliasEntry path

-- of an old path and a new one, or of an alias and the path of its file
abbrev pub edit_between : BetweenPaths → Path → Path → e.TreeEdit
edit_between between.RenameDir first second = e.RenameDir first second
edit_between between.AddAlias first second = e.AddAliasEntry first second
edit_between between.RenameAlias first second = e.RenameAliasEntry first second
