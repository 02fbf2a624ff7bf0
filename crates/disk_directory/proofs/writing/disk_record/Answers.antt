use Rattle.disk_directory.proofs.Names.{disk_failgroup, disk_name}
use Rattle.disk_directory.proofs.writing.disk_record.Goals as goal

pub disk_value-requires-clause-name : goal.disk_value-requires-clause-name
disk_value-requires-clause-name c = disk_name c.args.number c.info.inside.birth c.args.info.now c.info.inside.name c.info.inside.failgroup c.info.view_is c.requires

pub disk_value-requires-clause-failgroup : goal.disk_value-requires-clause-failgroup
disk_value-requires-clause-failgroup c = disk_failgroup c.args.number c.info.inside.birth c.args.info.now c.info.inside.name c.info.inside.failgroup c.info.view_is c.requires
