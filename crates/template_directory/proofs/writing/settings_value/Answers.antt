use Rattle.template_directory.proofs.Laws.{texts_fit}
use Rattle.template_directory.proofs.writing.settings_value.Goals as goal

pub put_settings-requires-clause-asm : goal.put_settings-requires-clause-asm
put_settings-requires-clause-asm c = (texts_fit c.args.settings.now c.requires).asm

pub put_settings-requires-clause-rdbms : goal.put_settings-requires-clause-rdbms
put_settings-requires-clause-rdbms c = (texts_fit c.args.settings.now c.requires).rdbms

pub put_settings-requires-clause-advm : goal.put_settings-requires-clause-advm
put_settings-requires-clause-advm c = (texts_fit c.args.settings.now c.requires).advm
