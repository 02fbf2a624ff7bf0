use Rattle.file_directory.proofs.Laws.{name_fits}
use Rattle.file_directory.proofs.writing.record_of.Goals as goal

pub put_head-requires-clause-fits : goal.put_head-requires-clause-fits
put_head-requires-clause-fits c = name_fits c.args.file c.args.head.now c.requires
