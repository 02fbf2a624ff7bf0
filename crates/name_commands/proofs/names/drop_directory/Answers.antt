use Rattle.std.proofs.Common.{refl}
use Rattle.asm_world.specs.Statement.{DropDirectory}
use Rattle.name_commands.proofs.AskedEdits.{clause_asked}
use Rattle.name_commands.proofs.names.drop_directory.Goals as goal

pub edit_clause-requires-clause-asks : goal.edit_clause-requires-clause-asks
edit_clause-requires-clause-asks g c =
    clause_asked c.args.desk.now.session.place c.args.text.now c.args.group (DropDirectory c.args.path) c.requires.asked refl (λ group. refl) c.clause_at-edit.result (rw c.as_slice.ensures at c.clause_at-edit.ensures)
