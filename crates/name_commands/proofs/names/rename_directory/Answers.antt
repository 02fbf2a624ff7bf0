use Rattle.std.proofs.Common.{refl}
use Rattle.asm_world.specs.Statement.{RenameDirectory}
use Rattle.name_commands.proofs.AskedEdits.{clause_asked}
use Rattle.name_commands.proofs.names.rename_directory.Goals as goal

pub edit_clause-requires-clause-asks : goal.edit_clause-requires-clause-asks
edit_clause-requires-clause-asks g c =
    clause_asked c.args.desk.now.session.place c.args.text.now c.args.group (RenameDirectory c.args.old c.args.new) c.requires.asked refl (λ group. refl) c.clause_between-edit.result (rw (c.as_slice.ensures, c.as_slice-2.ensures) at c.clause_between-edit.ensures)
