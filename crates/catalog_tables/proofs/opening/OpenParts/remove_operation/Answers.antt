use Rattle.std.proofs.Common.{None}
use Rattle.catalog_tables.proofs.SetLaws.{operations_set}
use Rattle.catalog_tables.specs.Changing.{tables_of}
use Rattle.catalog_tables.proofs.opening.OpenParts.remove_operation.Goals as goal

pub returns-clause-gone : goal.returns-clause-gone
returns-clause-gone c = operations_set (tables_of c.args.self.now) c.remove_record.new.self c.args.key None c.requires.kind c.remove_record.ensures.gone
