use Rattle.alias_edits.proofs.editing.refusal.Goals as goal

pub returns-in-RenameDir : goal.returns-in-RenameDir
returns-in-RenameDir c = rw c.in-RenameDir.is c.rename_dir_refusal.ensures

pub returns-in-AddAlias : goal.returns-in-AddAlias
returns-in-AddAlias c = rw c.in-AddAlias.is c.add_alias_refusal.ensures

pub returns-in-RenameAlias : goal.returns-in-RenameAlias
returns-in-RenameAlias c = rw c.in-RenameAlias.is c.rename_alias_refusal.ensures

pub returns-in-AddFile : goal.returns-in-AddFile
returns-in-AddFile c = rw c.in-AddFile.is c.new_name_refusal-in-AddFile.ensures
