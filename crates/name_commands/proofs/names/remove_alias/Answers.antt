use Rattle.name_commands.proofs.AskedEdits.{rmalias_asked}
use Rattle.name_commands.proofs.names.remove_alias.Goals as goal

pub edit_verb-requires-clause-asks : goal.edit_verb-requires-clause-asks
edit_verb-requires-clause-asks g c = rw c.as_slice.ensures (rmalias_asked c.args.desk.now.session.place c.args.text.now c.args.path c.requires.asked)
