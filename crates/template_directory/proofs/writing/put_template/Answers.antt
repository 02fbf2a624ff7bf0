use Rattle.template_directory.proofs.Laws.{name_fits}
use Rattle.template_directory.proofs.writing.put_template.Goals as goal

pub put_name-requires-clause-fits : goal.put_name-requires-clause-fits
put_name-requires-clause-fits c = name_fits c.template.view_is c.requires.right
