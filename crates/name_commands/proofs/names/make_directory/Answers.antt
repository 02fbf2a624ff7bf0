use Rattle.name_commands.proofs.AskedEdits.{mkdir_asked}
use Rattle.name_commands.proofs.names.make_directory.Goals as goal

pub edit_verb-requires-clause-asks : goal.edit_verb-requires-clause-asks
edit_verb-requires-clause-asks g c = rw c.as_slice.ensures (mkdir_asked c.args.desk.now.session.place c.args.text.now c.args.path c.requires.asked)
