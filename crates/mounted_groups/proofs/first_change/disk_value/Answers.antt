use Rattle.asm_formats.proofs.Fields.{name_len}
use Rattle.mounted_groups.proofs.first_change.disk_value.Goals as goal

pub put_name-requires-clause-fits : goal.put_name-requires-clause-fits
put_name-requires-clause-fits c = name_len c.args.disk.now c.requires

pub put_name-requires-2-clause-fits : goal.put_name-requires-2-clause-fits
put_name-requires-2-clause-fits c = name_len c.args.disk.now c.requires
